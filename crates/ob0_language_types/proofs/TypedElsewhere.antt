-- In a well-typed tree each use of a constant is a whole factor.
use Rattle.std.proofs.Common.{None, Option, Some, [], ap, map, option_and_then, option_map, refl, suc, sym, true, true≢false, ℕ, ◌&&◌, ◌++◌, ◌+◌, ◌∙◌, ◌∷◌, ◌≡◌}
use Rattle.ob0_tree.specs.Tree.{Tree, addend, adds, arguments, array_type, assigns, branches, calls, compares, designator, else_branch, else_part, elsif_branch, elsif_part, empty, end, expression, factor, field, fields, argument_after_comma, fields_after_semicolon, statement_after_semicolon, index, integer, item, items, maybe, more, multiplier, multiplies, named_type, negation, no_arguments, no_fields, none, one, parenthesised, product, record_type, relates, repeat_loop, runs, selector, sequence, simple, some_arguments, some_fields, statement, sum, term, comma_then_argument, semicolon_then_fields, semicolon_then_statement, while_loop, written_type}
use Rattle.ob0_language_names.specs.NonFactorNames.{non_factor_occurrences}
use Rattle.ob0_language_names.specs.Names.{Name}
use Rattle.ob0_language_names.specs.BlockParts.{names_in_list}
use Rattle.ob0_language_names.proofs.InliningLeavesNoUse.{NoneOf, none-of-join}
use Rattle.ob0_language_values.specs.Values.{FieldShapes, Shape, Value, array_shape, boolean_shape, elements, integer_shape, members, number, record_shape, truth}
use Rattle.ob0_language_types.specs.Arguments.{call_arguments, further_arguments}
use Rattle.ob0_language_types.specs.Expressions.{Meanings, Object, a_constant, a_procedure, a_standard_procedure, a_type, a_variable, evaluate_expression}
use Rattle.ob0_language_types.specs.Typing.{addition_type, array_length_from_value, negation_type, value_of_constant_object, constant_expression_value, meanings_in_constant_expressions, denoted_type, denoted_group_fields, denoted_further_fields, lone_designator, element_type, field_type, outcome_value, group_constructor_count, multiplication_type, type_of_variable_or_constant, relation_type, signed_operand_type, type_after_selectors, type_of_expression, type_after_addends, type_of_factor, type_after_multipliers, type_of_type_object, type_of_simple_expression, type_of_term, value_type, prepend_fields, type_if_within_limits}
use Rattle.ob0_language_types.specs.WellTyped.{FormalParameter, ParameterMode, Signature, TypeMeanings, same_known_shape, argument_matches_parameter, arguments_match_signature, by_place, by_value, call_is_well_typed, condition_is_boolean, else_is_well_typed, elsifs_are_well_typed, sequence_is_well_typed, signature_of, statement_is_well_typed, further_statements_are_well_typed, assignable_type}
use Rattle.std.proofs.lemmas.Bool.{and_parts}

pub then_some : {A B : Type 0} (o : Option A) (next : A → Option B) (b : B) → option_and_then next o ≡ Some b → (a : A) × (o ≡ Some a) × (next a ≡ Some b)
then_some None next b h = absurd (cc)
then_some (Some a) next b h = (a, refl, h)

-- holds if the names that satisfy `K` mean one constant
abbrev pub AreConstant : {V P : Type 0} → (Name → Type 0) → Meanings Name V P → Value → Type 0
AreConstant K meaning w = (x : Name) → K x → meaning.object_for x ≡ Some (a_constant w)

-- A constant with selectors has no type.

integer-alone : {P : Type 0} (meaning : Meanings Name Shape P) (s : Tree Name (item selector)) (rest : Tree Name (items selector)) → type_after_selectors meaning integer_shape (more s rest) ≡ None
unfolding type_of_expression
integer-alone meaning (field x) rest = refl
integer-alone meaning (index e) rest = elim (type_of_expression meaning e) as (λ o. option_and_then (λ i. option_and_then (λ t. type_after_selectors meaning t rest) (element_type integer_shape i)) o ≡ None) [ None ↦ refl | Some i ↦ refl ]

boolean-alone : {P : Type 0} (meaning : Meanings Name Shape P) (s : Tree Name (item selector)) (rest : Tree Name (items selector)) → type_after_selectors meaning boolean_shape (more s rest) ≡ None
unfolding type_of_expression
boolean-alone meaning (field x) rest = refl
boolean-alone meaning (index e) rest = elim (type_of_expression meaning e) as (λ o. option_and_then (λ i. option_and_then (λ t. type_after_selectors meaning t rest) (element_type boolean_shape i)) o ≡ None) [ None ↦ refl | Some i ↦ refl ]

constant-alone : {P : Type 0} (meaning : Meanings Name Shape P) (w : Value) (s : Tree Name (item selector)) (rest : Tree Name (items selector)) (t : Shape) → option_and_then (λ shape. type_after_selectors meaning shape (more s rest)) (value_type w) ≡ Some t → ⊥
constant-alone meaning (number n) s rest t h = let e : None ≡ Some t = sym (integer-alone meaning s rest) ∙ h in absurd (cc)
constant-alone meaning (truth b) s rest t h = let e : None ≡ Some t = sym (boolean-alone meaning s rest) ∙ h in absurd (cc)
constant-alone meaning (elements vs) s rest t h = absurd (cc)
constant-alone meaning (members k ms) s rest t h = absurd (cc)

mutual
  unfolding type_of_expression

  pub type_of_expression-elsewhere : {P : Type 0} (K : Name → Type 0) (meaning : Meanings Name Shape P) (w : Value) → AreConstant K meaning w → (e : Tree Name expression) (t : Shape) → type_of_expression meaning e ≡ Some t → NoneOf K (non_factor_occurrences e)
  type_of_expression-elsewhere K meaning w c (compares a none) t h = none-of-join K (non_factor_occurrences a) [] (type_of_simple_expression-elsewhere K meaning w c a t h) tt
  type_of_expression-elsewhere K meaning w c (compares a (one (relates r b))) t h =
      let (x, ex, h₁) = then_some (type_of_simple_expression meaning a) (λ x. option_and_then (λ y. relation_type r x y) (type_of_simple_expression meaning b)) t h in
      let (y, ey, h₂) = then_some (type_of_simple_expression meaning b) (λ y. relation_type r x y) t h₁ in
      none-of-join K (non_factor_occurrences a) (non_factor_occurrences b) (type_of_simple_expression-elsewhere K meaning w c a x ex) (type_of_simple_expression-elsewhere K meaning w c b y ey)

  pub type_of_simple_expression-elsewhere : {P : Type 0} (K : Name → Type 0) (meaning : Meanings Name Shape P) (w : Value) → AreConstant K meaning w → (a : Tree Name simple) (t : Shape) → type_of_simple_expression meaning a ≡ Some t → NoneOf K (non_factor_occurrences a)
  type_of_simple_expression-elsewhere K meaning w c (sum s a rest) t h =
      let (x, ex, h₁) = then_some (type_of_term meaning a) (λ x. option_and_then (λ y. type_after_addends meaning y rest) (signed_operand_type s x)) t h in
      let (y, ey, h₂) = then_some (signed_operand_type s x) (λ y. type_after_addends meaning y rest) t h₁ in
      none-of-join K (non_factor_occurrences a) (non_factor_occurrences rest) (type_of_term-elsewhere K meaning w c a x ex) (type_after_addends-elsewhere K meaning w c y rest t h₂)

  pub type_after_addends-elsewhere : {P : Type 0} (K : Name → Type 0) (meaning : Meanings Name Shape P) (w : Value) → AreConstant K meaning w → (x : Shape) (a : Tree Name (items addend)) (t : Shape) → type_after_addends meaning x a ≡ Some t → NoneOf K (non_factor_occurrences a)
  type_after_addends-elsewhere K meaning w c x end t h = tt
  type_after_addends-elsewhere K meaning w c x (more (adds o a) rest) t h =
      let (y, ey, h₁) = then_some (type_of_term meaning a) (λ y. option_and_then (λ z. type_after_addends meaning z rest) (addition_type o x y)) t h in
      let (z, ez, h₂) = then_some (addition_type o x y) (λ z. type_after_addends meaning z rest) t h₁ in
      none-of-join K (non_factor_occurrences a) (non_factor_occurrences rest) (type_of_term-elsewhere K meaning w c a y ey) (type_after_addends-elsewhere K meaning w c z rest t h₂)

  pub type_of_term-elsewhere : {P : Type 0} (K : Name → Type 0) (meaning : Meanings Name Shape P) (w : Value) → AreConstant K meaning w → (a : Tree Name term) (t : Shape) → type_of_term meaning a ≡ Some t → NoneOf K (non_factor_occurrences a)
  type_of_term-elsewhere K meaning w c (product f rest) t h =
      let (x, ex, h₁) = then_some (type_of_factor meaning f) (λ x. type_after_multipliers meaning x rest) t h in
      none-of-join K (non_factor_occurrences f) (non_factor_occurrences rest) (type_of_factor-elsewhere K meaning w c f x ex) (type_after_multipliers-elsewhere K meaning w c x rest t h₁)

  pub type_after_multipliers-elsewhere : {P : Type 0} (K : Name → Type 0) (meaning : Meanings Name Shape P) (w : Value) → AreConstant K meaning w → (x : Shape) (a : Tree Name (items multiplier)) (t : Shape) → type_after_multipliers meaning x a ≡ Some t → NoneOf K (non_factor_occurrences a)
  type_after_multipliers-elsewhere K meaning w c x end t h = tt
  type_after_multipliers-elsewhere K meaning w c x (more (multiplies o f) rest) t h =
      let (y, ey, h₁) = then_some (type_of_factor meaning f) (λ y. option_and_then (λ z. type_after_multipliers meaning z rest) (multiplication_type o x y)) t h in
      let (z, ez, h₂) = then_some (multiplication_type o x y) (λ z. type_after_multipliers meaning z rest) t h₁ in
      none-of-join K (non_factor_occurrences f) (non_factor_occurrences rest) (type_of_factor-elsewhere K meaning w c f y ey) (type_after_multipliers-elsewhere K meaning w c z rest t h₂)

  pub type_of_factor-elsewhere : {P : Type 0} (K : Name → Type 0) (meaning : Meanings Name Shape P) (w : Value) → AreConstant K meaning w → (a : Tree Name factor) (t : Shape) → type_of_factor meaning a ≡ Some t → NoneOf K (non_factor_occurrences a)
  type_of_factor-elsewhere K meaning w c (designator x end) t h = tt
  type_of_factor-elsewhere K meaning w c (designator x (more s rest)) t h =
      let (shape, es, h₁) = then_some (type_of_variable_or_constant (meaning.object_for x)) (λ shape. type_after_selectors meaning shape (more s rest)) t h in
      (λ k. constant-alone meaning w s rest t (sym (ap (λ o. option_and_then (λ shape. type_after_selectors meaning shape (more s rest)) (type_of_variable_or_constant o)) (c x k)) ∙ h), type_after_selectors-elsewhere K meaning w c shape (more s rest) t h₁)
  type_of_factor-elsewhere K meaning w c (integer n) t h = tt
  type_of_factor-elsewhere K meaning w c (parenthesised e) t h = type_of_expression-elsewhere K meaning w c e t h
  type_of_factor-elsewhere K meaning w c (negation f) t h =
      let (x, ex, h₁) = then_some (type_of_factor meaning f) negation_type t h in type_of_factor-elsewhere K meaning w c f x ex

  pub type_after_selectors-elsewhere : {P : Type 0} (K : Name → Type 0) (meaning : Meanings Name Shape P) (w : Value) → AreConstant K meaning w → (s : Shape) (a : Tree Name (items selector)) (t : Shape) → type_after_selectors meaning s a ≡ Some t → NoneOf K (non_factor_occurrences a)
  type_after_selectors-elsewhere K meaning w c s end t h = tt
  type_after_selectors-elsewhere K meaning w c s (more (field x) rest) t h =
      let (y, ey, h₁) = then_some (field_type s (meaning.written x)) (λ y. type_after_selectors meaning y rest) t h in type_after_selectors-elsewhere K meaning w c y rest t h₁
  type_after_selectors-elsewhere K meaning w c s (more (index e) rest) t h =
      let (i, ei, h₁) = then_some (type_of_expression meaning e) (λ i. option_and_then (λ y. type_after_selectors meaning y rest) (element_type s i)) t h in
      let (y, ey, h₂) = then_some (element_type s i) (λ y. type_after_selectors meaning y rest) t h₁ in
      none-of-join K (non_factor_occurrences e) (non_factor_occurrences rest) (type_of_expression-elsewhere K meaning w c e i ei) (type_after_selectors-elsewhere K meaning w c y rest t h₂)

-- In constant expressions that have a value, and in types, each use of the constant is a whole factor.

pub constant_expression_value-elsewhere : {V P : Type 0} (K : Name → Type 0) (meaning : Meanings Name V P) (w : Value) → AreConstant K meaning w → (e : Tree Name expression) (v : Value) → constant_expression_value meaning e ≡ Some v → NoneOf K (non_factor_occurrences e)
unfolding constant_expression_value
constant_expression_value-elsewhere K meaning w c e v h =
    let (s, es, h₁) = then_some (type_of_expression {P = Unit {0}} (meanings_in_constant_expressions meaning) e) (λ s. outcome_value (evaluate_expression {P = Unit {0}} (meanings_in_constant_expressions meaning) [] e)) v h in
    type_of_expression-elsewhere {P = Unit {0}} K (meanings_in_constant_expressions meaning) w (λ x k. ap (λ o. option_map a_constant (value_of_constant_object o)) (c x k)) e s es

mutual
  unfolding denoted_type

  pub denoted_type-elsewhere : {V P : Type 0} (K : Name → Type 0) (meaning : Meanings Name V P) (w : Value) → AreConstant K meaning w → (j : ℕ) (t : Tree Name written_type) (s : Shape) → denoted_type meaning j t ≡ Some s → NoneOf K (non_factor_occurrences t)
  denoted_type-elsewhere K meaning w c j (named_type x) s h = (λ k. let e : None ≡ Some s = sym (ap type_of_type_object (c x k)) ∙ h in absurd (cc), tt)
  denoted_type-elsewhere K meaning w c j (array_type e t) s h =
      let (v, ev, h₁) = then_some (constant_expression_value meaning e) (λ v. option_and_then (λ n. option_and_then (λ s. type_if_within_limits (array_shape j n s)) (denoted_type meaning (suc j) t)) (array_length_from_value v)) s h in
      let (n, en, h₂) = then_some (array_length_from_value v) (λ n. option_and_then (λ s. type_if_within_limits (array_shape j n s)) (denoted_type meaning (suc j) t)) s h₁ in
      let (u, eu, h₃) = then_some (denoted_type meaning (suc j) t) (λ s. type_if_within_limits (array_shape j n s)) s h₂ in
      none-of-join K (non_factor_occurrences e) (non_factor_occurrences t) (constant_expression_value-elsewhere K meaning w c e v ev) (denoted_type-elsewhere K meaning w c (suc j) t u eu)
  denoted_type-elsewhere K meaning w c j (record_type g rest) s h =
      let (later, el, h₁) = then_some (denoted_further_fields meaning (suc j + group_constructor_count g) rest) (λ later. option_and_then (λ fs. type_if_within_limits (record_shape j fs)) (denoted_group_fields meaning (suc j) later g)) s h in
      let (fs, ef, h₂) = then_some (denoted_group_fields meaning (suc j) later g) (λ fs. type_if_within_limits (record_shape j fs)) s h₁ in
      none-of-join K (non_factor_occurrences g) (non_factor_occurrences rest) (denoted_group_fields-elsewhere K meaning w c (suc j) later g fs ef) (denoted_further_fields-elsewhere K meaning w c (suc j + group_constructor_count g) rest later el)

  pub denoted_group_fields-elsewhere : {V P : Type 0} (K : Name → Type 0) (meaning : Meanings Name V P) (w : Value) → AreConstant K meaning w → (j : ℕ) (later : FieldShapes) (g : Tree Name fields) (fs : FieldShapes) → denoted_group_fields meaning j later g ≡ Some fs → NoneOf K (non_factor_occurrences g)
  denoted_group_fields-elsewhere K meaning w c j later no_fields fs h = tt
  denoted_group_fields-elsewhere K meaning w c j later (some_fields ns t) fs h =
      let (s, es, h₁) = then_some (denoted_type meaning j t) (λ s. Some (prepend_fields (map meaning.written (names_in_list ns)) s later)) fs h in denoted_type-elsewhere K meaning w c j t s es

  pub denoted_further_fields-elsewhere : {V P : Type 0} (K : Name → Type 0) (meaning : Meanings Name V P) (w : Value) → AreConstant K meaning w → (j : ℕ) (gs : Tree Name (items fields_after_semicolon)) (fs : FieldShapes) → denoted_further_fields meaning j gs ≡ Some fs → NoneOf K (non_factor_occurrences gs)
  denoted_further_fields-elsewhere K meaning w c j end fs h = tt
  denoted_further_fields-elsewhere K meaning w c j (more (semicolon_then_fields g) rest) fs h =
      let (later, el, h₁) = then_some (denoted_further_fields meaning (j + group_constructor_count g) rest) (λ later. denoted_group_fields meaning j later g) fs h in
      none-of-join K (non_factor_occurrences g) (non_factor_occurrences rest) (denoted_group_fields-elsewhere K meaning w c j later g fs h₁) (denoted_further_fields-elsewhere K meaning w c (j + group_constructor_count g) rest later el)

-- In well-typed statements each use of the constant is a whole factor.

same_known_shape-parts : (a b : Option Shape) → same_known_shape a b ≡ true → (s : Shape) × (t : Shape) × (a ≡ Some s) × (b ≡ Some t)
same_known_shape-parts None None h = absurd (true≢false (sym h))
same_known_shape-parts None (Some t) h = absurd (true≢false (sym h))
same_known_shape-parts (Some s) None h = absurd (true≢false (sym h))
same_known_shape-parts (Some s) (Some t) h = (s, t, refl, refl)

variable-parts : (meaning : TypeMeanings Name) (path : Tree Name (items selector)) (o : Option (Object Shape Signature)) (t : Shape) → (elim o [ Some (a_variable s) ↦ type_after_selectors meaning s path | _ ↦ None ]) ≡ Some t → (s : Shape) × (o ≡ Some (a_variable s)) × (type_after_selectors meaning s path ≡ Some t)
variable-parts meaning path None t h = absurd (cc)
variable-parts meaning path (Some (a_type s)) t h = absurd (cc)
variable-parts meaning path (Some (a_constant v)) t h = absurd (cc)
variable-parts meaning path (Some (a_variable s)) t h = (s, refl, h)
variable-parts meaning path (Some (a_procedure p)) t h = absurd (cc)
variable-parts meaning path (Some (a_standard_procedure p)) t h = absurd (cc)

pub variable-elsewhere : (K : Name → Type 0) (meaning : TypeMeanings Name) (w : Value) → AreConstant K meaning w → (x : Name) (path : Tree Name (items selector)) (t : Shape) → assignable_type meaning (Some (x, path)) ≡ Some t → (K x → ⊥) × NoneOf K (non_factor_occurrences path)
unfolding assignable_type
variable-elsewhere K meaning w c x path t h =
    let (s, es, h₁) = variable-parts meaning path (meaning.object_for x) t h in
    (λ k. let e : Some (a_variable s) ≡ Some (a_constant w) = sym es ∙ c x k in absurd (cc), type_after_selectors-elsewhere K meaning w c s path t h₁)

pub lone_designator-elsewhere : (K : Name → Type 0) (meaning : TypeMeanings Name) (w : Value) → AreConstant K meaning w → (e : Tree Name expression) (t : Shape) → assignable_type meaning (lone_designator e) ≡ Some t → NoneOf K (non_factor_occurrences e)
unfolding assignable_type
lone_designator-elsewhere K meaning w c (compares (sum None (product (designator x end) end) end) none) t h = tt
lone_designator-elsewhere K meaning w c (compares (sum None (product (designator x (more s rest)) end) end) none) t h =
    let v = variable-elsewhere K meaning w c x (more s rest) t h in
    none-of-join K ((x ∷ non_factor_occurrences (more s rest)) ++ [] ++ []) [] (none-of-join K ((x ∷ non_factor_occurrences (more s rest)) ++ []) [] (none-of-join K (x ∷ non_factor_occurrences (more s rest)) [] v tt) tt) tt
lone_designator-elsewhere K meaning w c _ t h = absurd (cc)

pub argument-elsewhere : (K : Name → Type 0) (meaning : TypeMeanings Name) (w : Value) → AreConstant K meaning w → (f : FormalParameter) (e : Tree Name expression) → argument_matches_parameter meaning f e ≡ true → NoneOf K (non_factor_occurrences e)
unfolding argument_matches_parameter
argument-elsewhere K meaning w c f e h = go f.mode h
  where
    go : (m : ParameterMode) → same_known_shape (Some f.shape) (elim m [ by_value ↦ type_of_expression meaning e | by_place ↦ assignable_type meaning (lone_designator e) ]) ≡ true → NoneOf K (non_factor_occurrences e)
    go by_value h = let (s, t, a, b) = same_known_shape-parts (Some f.shape) (type_of_expression meaning e) h in type_of_expression-elsewhere K meaning w c e t b
    go by_place h = let (s, t, a, b) = same_known_shape-parts (Some f.shape) (assignable_type meaning (lone_designator e)) h in lone_designator-elsewhere K meaning w c e t b

pub further-elsewhere : (K : Name → Type 0) (meaning : TypeMeanings Name) (w : Value) → AreConstant K meaning w → (fs : Signature) (es : Tree Name (items argument_after_comma)) → arguments_match_signature meaning fs (further_arguments es) ≡ true → NoneOf K (non_factor_occurrences es)
unfolding arguments_match_signature
further-elsewhere K meaning w c fs end h = tt
further-elsewhere K meaning w c [] (more (comma_then_argument e) es) h = absurd (true≢false (sym h))
further-elsewhere K meaning w c (f ∷ fs) (more (comma_then_argument e) es) h =
    let p = and_parts (argument_matches_parameter meaning f e) (arguments_match_signature meaning fs (further_arguments es)) h in
    none-of-join K (non_factor_occurrences e) (non_factor_occurrences es) (argument-elsewhere K meaning w c f e p.0) (further-elsewhere K meaning w c fs es p.1)

pub arguments-elsewhere : (K : Name → Type 0) (meaning : TypeMeanings Name) (w : Value) → AreConstant K meaning w → (fs : Signature) (es : Tree Name (maybe arguments)) → arguments_match_signature meaning fs (call_arguments es) ≡ true → NoneOf K (non_factor_occurrences es)
unfolding arguments_match_signature
arguments-elsewhere K meaning w c fs none h = tt
arguments-elsewhere K meaning w c fs (one no_arguments) h = tt
arguments-elsewhere K meaning w c [] (one (some_arguments e es)) h = absurd (true≢false (sym h))
arguments-elsewhere K meaning w c (f ∷ fs) (one (some_arguments e es)) h =
    let p = and_parts (argument_matches_parameter meaning f e) (arguments_match_signature meaning fs (further_arguments es)) h in
    none-of-join K (non_factor_occurrences e) (non_factor_occurrences es) (argument-elsewhere K meaning w c f e p.0) (further-elsewhere K meaning w c fs es p.1)

call-elsewhere : (K : Name → Type 0) (meaning : TypeMeanings Name) (w : Value) → AreConstant K meaning w → (x : Name) (o : Option Signature) (es : Tree Name (maybe arguments)) → signature_of (meaning.object_for x) ≡ o → call_is_well_typed meaning o (call_arguments es) ≡ true → (K x → ⊥) × NoneOf K (non_factor_occurrences es)
unfolding call_is_well_typed
call-elsewhere K meaning w c x None es e h = absurd (true≢false (sym h))
call-elsewhere K meaning w c x (Some fs) es e h = (λ k. let d : None ≡ Some fs = sym (ap signature_of (c x k)) ∙ e in absurd (cc), arguments-elsewhere K meaning w c fs es h)

condition-elsewhere : (K : Name → Type 0) (meaning : TypeMeanings Name) (w : Value) → AreConstant K meaning w → (e : Tree Name expression) → condition_is_boolean meaning e ≡ true → NoneOf K (non_factor_occurrences e)
unfolding condition_is_boolean
condition-elsewhere K meaning w c e h = let (s, t, a, b) = same_known_shape-parts (Some boolean_shape) (type_of_expression meaning e) h in type_of_expression-elsewhere K meaning w c e t b

mutual
  unfolding statement_is_well_typed

  pub statement-elsewhere : (K : Name → Type 0) (meaning : TypeMeanings Name) (w : Value) → AreConstant K meaning w → (a : Tree Name statement) → statement_is_well_typed meaning a ≡ true → NoneOf K (non_factor_occurrences a)
  statement-elsewhere K meaning w c empty h = tt
  statement-elsewhere K meaning w c (assigns x path e) h =
      let (s, t, a, b) = same_known_shape-parts (assignable_type meaning (Some (x, path))) (type_of_expression meaning e) h in
      let v = variable-elsewhere K meaning w c x path s a in
      (v.0, none-of-join K (non_factor_occurrences path) (non_factor_occurrences e) v.1 (type_of_expression-elsewhere K meaning w c e t b))
  statement-elsewhere K meaning w c (calls x es) h = call-elsewhere K meaning w c x (signature_of (meaning.object_for x)) es refl h
  statement-elsewhere K meaning w c (branches e statements rest last) h =
      let p = and_parts (condition_is_boolean meaning e) (sequence_is_well_typed meaning statements && (elsifs_are_well_typed meaning rest && else_is_well_typed meaning last)) h in
      let q = and_parts (sequence_is_well_typed meaning statements) (elsifs_are_well_typed meaning rest && else_is_well_typed meaning last) p.1 in
      let r = and_parts (elsifs_are_well_typed meaning rest) (else_is_well_typed meaning last) q.1 in
      none-of-join K (non_factor_occurrences e) (non_factor_occurrences statements ++ (non_factor_occurrences rest ++ non_factor_occurrences last)) (condition-elsewhere K meaning w c e p.0)
      (none-of-join K (non_factor_occurrences statements) (non_factor_occurrences rest ++ non_factor_occurrences last) (sequence-elsewhere K meaning w c statements q.0)
      (none-of-join K (non_factor_occurrences rest) (non_factor_occurrences last) (elsifs-elsewhere K meaning w c rest r.0) (else-elsewhere K meaning w c last r.1)))
  statement-elsewhere K meaning w c (while_loop e statements) h =
      let p = and_parts (condition_is_boolean meaning e) (sequence_is_well_typed meaning statements) h in
      none-of-join K (non_factor_occurrences e) (non_factor_occurrences statements) (condition-elsewhere K meaning w c e p.0) (sequence-elsewhere K meaning w c statements p.1)
  statement-elsewhere K meaning w c (repeat_loop statements e) h =
      let p = and_parts (sequence_is_well_typed meaning statements) (condition_is_boolean meaning e) h in
      none-of-join K (non_factor_occurrences statements) (non_factor_occurrences e) (sequence-elsewhere K meaning w c statements p.0) (condition-elsewhere K meaning w c e p.1)

  pub sequence-elsewhere : (K : Name → Type 0) (meaning : TypeMeanings Name) (w : Value) → AreConstant K meaning w → (a : Tree Name sequence) → sequence_is_well_typed meaning a ≡ true → NoneOf K (non_factor_occurrences a)
  sequence-elsewhere K meaning w c (runs a rest) h =
      let p = and_parts (statement_is_well_typed meaning a) (further_statements_are_well_typed meaning rest) h in
      none-of-join K (non_factor_occurrences a) (non_factor_occurrences rest) (statement-elsewhere K meaning w c a p.0) (statements-elsewhere K meaning w c rest p.1)

  statements-elsewhere : (K : Name → Type 0) (meaning : TypeMeanings Name) (w : Value) → AreConstant K meaning w → (a : Tree Name (items statement_after_semicolon)) → further_statements_are_well_typed meaning a ≡ true → NoneOf K (non_factor_occurrences a)
  statements-elsewhere K meaning w c end h = tt
  statements-elsewhere K meaning w c (more (semicolon_then_statement a) rest) h =
      let p = and_parts (statement_is_well_typed meaning a) (further_statements_are_well_typed meaning rest) h in
      none-of-join K (non_factor_occurrences a) (non_factor_occurrences rest) (statement-elsewhere K meaning w c a p.0) (statements-elsewhere K meaning w c rest p.1)

  elsifs-elsewhere : (K : Name → Type 0) (meaning : TypeMeanings Name) (w : Value) → AreConstant K meaning w → (a : Tree Name (items elsif_part)) → elsifs_are_well_typed meaning a ≡ true → NoneOf K (non_factor_occurrences a)
  elsifs-elsewhere K meaning w c end h = tt
  elsifs-elsewhere K meaning w c (more (elsif_branch e statements) rest) h =
      let p = and_parts (condition_is_boolean meaning e) (sequence_is_well_typed meaning statements && elsifs_are_well_typed meaning rest) h in
      let q = and_parts (sequence_is_well_typed meaning statements) (elsifs_are_well_typed meaning rest) p.1 in
      none-of-join K (non_factor_occurrences e ++ non_factor_occurrences statements) (non_factor_occurrences rest)
      (none-of-join K (non_factor_occurrences e) (non_factor_occurrences statements) (condition-elsewhere K meaning w c e p.0) (sequence-elsewhere K meaning w c statements q.0)) (elsifs-elsewhere K meaning w c rest q.1)

  else-elsewhere : (K : Name → Type 0) (meaning : TypeMeanings Name) (w : Value) → AreConstant K meaning w → (a : Tree Name (maybe else_part)) → else_is_well_typed meaning a ≡ true → NoneOf K (non_factor_occurrences a)
  else-elsewhere K meaning w c none h = tt
  else-elsewhere K meaning w c (one (else_branch statements)) h = sequence-elsewhere K meaning w c statements h
