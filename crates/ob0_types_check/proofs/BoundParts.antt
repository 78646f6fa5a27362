-- Each name has a meaning if it occurs in an expression that has a type, in a written type that denotes a type, or in
-- well-typed statements.
use Rattle.std.proofs.Common.{◌≡◌, ℕ, suc, ◌+◌, true, true≢false, List, [], ◌∷◌, ◌++◌, map, Option, Some, None, option_map, option_and_then, refl, sym, ◌∙◌}
use Rattle.std.proofs.lemmas.Bool.{and_parts}
use Rattle.ob0_language_names.specs.BlockParts.{names_in_list}
use Rattle.ob0_tree.specs.Tree.{Tree, addend, adds, arguments, array_type, assigns, branches, calls, compares, designator, else_branch, else_part, elsif_branch, elsif_part, empty, end, expression, factor, field, fields, argument_after_comma, fields_after_semicolon, statement_after_semicolon, index, integer, items, maybe, more, multiplier, multiplies, named_type, negation, no_arguments, no_fields, none, occurrences, one, parenthesised, product, record_type, relates, repeat_loop, runs, selector, sequence, simple, some_arguments, some_fields, statement, sum, term, comma_then_argument, semicolon_then_fields, semicolon_then_statement, while_loop, written_type}
use Rattle.ob0_language_types.specs.Arguments.{call_arguments, further_arguments}
use Rattle.ob0_language_types.specs.Expressions.{Meanings, Object, a_constant, a_procedure, a_standard_procedure, a_type, a_variable, evaluate_expression}
use Rattle.ob0_language_types.specs.Typing.{addition_type, array_length_from_value, negation_type, value_of_constant_object, constant_expression_value, meanings_in_constant_expressions, denoted_type, denoted_group_fields, denoted_further_fields, lone_designator, element_type, field_type, outcome_value, group_constructor_count, multiplication_type, type_of_variable_or_constant, relation_type, signed_operand_type, type_after_selectors, type_of_expression, type_after_addends, type_of_factor, type_after_multipliers, type_of_type_object, type_of_simple_expression, type_of_term, prepend_fields, type_if_within_limits}
use Rattle.ob0_language_types.specs.WellTyped.{FormalParameter, ParameterMode, Signature, TypeMeanings, same_known_shape, argument_matches_parameter, arguments_match_signature, by_place, by_value, call_is_well_typed, condition_is_boolean, else_is_well_typed, elsifs_are_well_typed, sequence_is_well_typed, signature_of, statement_is_well_typed, further_statements_are_well_typed, assignable_type}
use Rattle.ob0_language_types.proofs.Conditions.{same_known_shape-true}
use Rattle.ob0_language_values.specs.Values.{FieldShapes, Shape, Value, array_shape, boolean_shape, record_shape}
use Rattle.ob0_types_check.proofs.DeclaredNames.{Each}
use Rattle.ob0_types_check.proofs.TypedOperands.{and-then}
use Rattle.ob0_types_check.proofs.Unreported.{some-none}

pub each-of-both : {A : Type 0} (P : A → Type 0) (xs ys : List A) → Each P xs → Each P ys → Each P (xs ++ ys)
each-of-both P [] ys p q = q
each-of-both P (x ∷ xs) ys p q = (p.0, each-of-both P xs ys p.1 q)

-- A name has a meaning if a look-up gives a result for the name, and would give nothing for an unbound name.
name-of : {V Q B : Type 0} (f : Option (Object V Q) → Option B) → f None ≡ None → (o : Option (Object V Q)) (b : B) → f o ≡ Some b → (x : Object V Q) × (o ≡ Some x)
name-of f nothing None b h = absurd (some-none b (sym h ∙ nothing))
name-of f nothing (Some x) b h = (x, refl)

module _ {N Q : Type 0} (P : N → Type 0) (meaning : Meanings N Shape Q) (bound : (x : N) (o : Object Shape Q) → meaning.object_for x ≡ Some o → P x) where
  mutual
    unfolding type_of_expression

    pub expression-bound : (e : Tree N expression) (s : Shape) → type_of_expression meaning e ≡ Some s → Each P (occurrences e)
    expression-bound (compares a none) s h = each-of-both P (occurrences a) [] (simple-bound a s h) tt
    expression-bound (compares a (one (relates r b))) s h =
        let (u, hu, later) = and-then (λ x. option_and_then (relation_type r x) (type_of_simple_expression meaning b)) (type_of_simple_expression meaning a) s h in
        let (v, hv, last) = and-then (relation_type r u) (type_of_simple_expression meaning b) s later in
        each-of-both P (occurrences a) (occurrences b) (simple-bound a u hu) (simple-bound b v hv)

    simple-bound : (a : Tree N simple) (s : Shape) → type_of_simple_expression meaning a ≡ Some s → Each P (occurrences a)
    simple-bound (sum g t rest) s h =
        let (u, hu, later) = and-then (λ x. option_and_then (λ y. type_after_addends meaning y rest) (signed_operand_type g x)) (type_of_term meaning t) s h in
        let (v, hv, last) = and-then (λ y. type_after_addends meaning y rest) (signed_operand_type g u) s later in
        each-of-both P (occurrences t) (occurrences rest) (term-bound t u hu) (addends-bound v rest s last)

    addends-bound : (x : Shape) (rest : Tree N (items addend)) (s : Shape) → type_after_addends meaning x rest ≡ Some s → Each P (occurrences rest)
    addends-bound x end s h = tt
    addends-bound x (more (adds o t) rest) s h =
        let (u, hu, later) = and-then (λ y. option_and_then (λ z. type_after_addends meaning z rest) (addition_type o x y)) (type_of_term meaning t) s h in
        let (v, hv, last) = and-then (λ z. type_after_addends meaning z rest) (addition_type o x u) s later in
        each-of-both P (occurrences t) (occurrences rest) (term-bound t u hu) (addends-bound v rest s last)

    term-bound : (t : Tree N term) (s : Shape) → type_of_term meaning t ≡ Some s → Each P (occurrences t)
    term-bound (product f rest) s h =
        let (u, hu, last) = and-then (λ x. type_after_multipliers meaning x rest) (type_of_factor meaning f) s h in
        each-of-both P (occurrences f) (occurrences rest) (factor-bound f u hu) (multipliers-bound u rest s last)

    multipliers-bound : (x : Shape) (rest : Tree N (items multiplier)) (s : Shape) → type_after_multipliers meaning x rest ≡ Some s → Each P (occurrences rest)
    multipliers-bound x end s h = tt
    multipliers-bound x (more (multiplies o f) rest) s h =
        let (u, hu, later) = and-then (λ y. option_and_then (λ z. type_after_multipliers meaning z rest) (multiplication_type o x y)) (type_of_factor meaning f) s h in
        let (v, hv, last) = and-then (λ z. type_after_multipliers meaning z rest) (multiplication_type o x u) s later in
        each-of-both P (occurrences f) (occurrences rest) (factor-bound f u hu) (multipliers-bound v rest s last)

    factor-bound : (f : Tree N factor) (s : Shape) → type_of_factor meaning f ≡ Some s → Each P (occurrences f)
    factor-bound (designator x path) s h =
        let (u, hu, last) = and-then (λ s. type_after_selectors meaning s path) (type_of_variable_or_constant (meaning.object_for x)) s h in
        let (o, ho) = name-of type_of_variable_or_constant refl (meaning.object_for x) u hu in
        (bound x o ho, selectors-bound u path s last)
    factor-bound (integer n) s h = tt
    factor-bound (parenthesised e) s h = expression-bound e s h
    factor-bound (negation f) s h = let (u, hu, last) = and-then negation_type (type_of_factor meaning f) s h in factor-bound f u hu

    pub selectors-bound : (s : Shape) (path : Tree N (items selector)) (r : Shape) → type_after_selectors meaning s path ≡ Some r → Each P (occurrences path)
    selectors-bound s end r h = tt
    selectors-bound s (more (field x) rest) r h =
        let (u, hu, last) = and-then (λ t. type_after_selectors meaning t rest) (field_type s (meaning.written x)) r h in
        selectors-bound u rest r last
    selectors-bound s (more (index e) rest) r h =
        let (u, hu, later) = and-then (λ i. option_and_then (λ t. type_after_selectors meaning t rest) (element_type s i)) (type_of_expression meaning e) r h in
        let (v, hv, last) = and-then (λ t. type_after_selectors meaning t rest) (element_type s u) r later in
        each-of-both P (occurrences e) (occurrences rest) (expression-bound e u hu) (selectors-bound v rest r last)

module _ {N V Q : Type 0} (P : N → Type 0) (meaning : Meanings N V Q) (bound : (x : N) (o : Object V Q) → meaning.object_for x ≡ Some o → P x) where
  constant-bound : (R : Type 0) (x : N) (o : Object Shape R) → (meanings_in_constant_expressions {W = Shape} {Q = R} meaning).object_for x ≡ Some o → P x
  constant-bound R x o h =
      let (p, hp) = name-of (λ m. option_map {U = Object Shape R} a_constant (value_of_constant_object m)) refl (meaning.object_for x) o h in bound x p hp

  pub value-bound : (e : Tree N expression) (v : Value) → constant_expression_value meaning e ≡ Some v → Each P (occurrences e)
  unfolding constant_expression_value
  value-bound e v h =
      let (s, hs, given) = and-then (λ s. outcome_value (evaluate_expression {P = Unit {0}} (meanings_in_constant_expressions meaning) [] e)) (type_of_expression {P = Unit {0}} (meanings_in_constant_expressions meaning) e) v h in
      expression-bound P (meanings_in_constant_expressions {W = Shape} {Q = Unit {0}} meaning) (constant-bound (Unit {0})) e s hs

  mutual
    unfolding denoted_type

    pub type-bound : (k : ℕ) (t : Tree N written_type) (s : Shape) → denoted_type meaning k t ≡ Some s → Each P (occurrences t)
    type-bound k (named_type x) s h = let (o, ho) = name-of type_of_type_object refl (meaning.object_for x) s h in (bound x o ho, tt)
    type-bound k (array_type e t) s h =
        let (v, hv, later) = and-then (λ v. option_and_then (λ n. option_and_then (λ s. type_if_within_limits (array_shape k n s)) (denoted_type meaning (suc k) t)) (array_length_from_value v)) (constant_expression_value meaning e) s h in
        let (n, hn, last) = and-then (λ n. option_and_then (λ s. type_if_within_limits (array_shape k n s)) (denoted_type meaning (suc k) t)) (array_length_from_value v) s later in
        let (u, hu, limits) = and-then (λ s. type_if_within_limits (array_shape k n s)) (denoted_type meaning (suc k) t) s last in
        each-of-both P (occurrences e) (occurrences t) (value-bound e v hv) (type-bound (suc k) t u hu)
    type-bound k (record_type g rest) s h =
        let (later, hl, last) = and-then (λ later. option_and_then (λ fs. type_if_within_limits (record_shape k fs)) (denoted_group_fields meaning (suc k) later g)) (denoted_further_fields meaning (suc k + group_constructor_count g) rest) s h in
        let (fs, hf, limits) = and-then (λ fs. type_if_within_limits (record_shape k fs)) (denoted_group_fields meaning (suc k) later g) s last in
        each-of-both P (occurrences g) (occurrences rest) (group-bound (suc k) later g fs hf) (groups-bound (suc k + group_constructor_count g) rest later hl)

    group-bound : (k : ℕ) (later : FieldShapes) (g : Tree N fields) (fs : FieldShapes) → denoted_group_fields meaning k later g ≡ Some fs → Each P (occurrences g)
    group-bound k later no_fields fs h = tt
    group-bound k later (some_fields ns t) fs h =
        let (s, hs, last) = and-then (λ s. Some (prepend_fields (map meaning.written (names_in_list ns)) s later)) (denoted_type meaning k t) fs h in type-bound k t s hs

    groups-bound : (k : ℕ) (gs : Tree N (items fields_after_semicolon)) (fs : FieldShapes) → denoted_further_fields meaning k gs ≡ Some fs → Each P (occurrences gs)
    groups-bound k end fs h = tt
    groups-bound k (more (semicolon_then_fields g) rest) fs h =
        let (later, hl, last) = and-then (λ later. denoted_group_fields meaning k later g) (denoted_further_fields meaning (k + group_constructor_count g) rest) fs h in
        each-of-both P (occurrences g) (occurrences rest) (group-bound k later g fs last) (groups-bound (k + group_constructor_count g) rest later hl)

module _ {N : Type 0} (P : N → Type 0) (meaning : TypeMeanings N) (bound : (x : N) (o : Object Shape Signature) → meaning.object_for x ≡ Some o → P x) where
  condition-bound : (e : Tree N expression) → condition_is_boolean meaning e ≡ true → Each P (occurrences e)
  unfolding condition_is_boolean
  condition-bound e h = let (s, truth, typed) = same_known_shape-true (Some boolean_shape) (type_of_expression meaning e) h in expression-bound P meaning bound e s typed

  variable-bound : (x : N) (path : Tree N (items selector)) (s : Shape) → assignable_type meaning (Some (x, path)) ≡ Some s → P x × Each P (occurrences path)
  unfolding assignable_type
  variable-bound x path s h = by-object (meaning.object_for x) refl h
    where
      by-object : (o : Option (Object Shape Signature)) → meaning.object_for x ≡ o → (elim o [ Some (a_variable v) ↦ type_after_selectors meaning v path | _ ↦ None ]) ≡ Some s → P x × Each P (occurrences path)
      by-object None e h = absurd (some-none s (sym h))
      by-object (Some (a_type t)) e h = absurd (some-none s (sym h))
      by-object (Some (a_constant c)) e h = absurd (some-none s (sym h))
      by-object (Some (a_procedure p)) e h = absurd (some-none s (sym h))
      by-object (Some (a_standard_procedure p)) e h = absurd (some-none s (sym h))
      by-object (Some (a_variable v)) e h = (bound x (a_variable v) e, selectors-bound P meaning bound v path s h)

  -- Each name in the argument of a VAR parameter has a meaning, because the argument is only a designator.
  place-bound : (e : Tree N expression) (s : Shape) → assignable_type meaning (lone_designator e) ≡ Some s → Each P (occurrences e)
  unfolding assignable_type
  place-bound (compares (sum (Some g) t rest) c) s h = absurd (some-none s (sym h))
  place-bound (compares (sum None (product (integer n) factors) rest) c) s h = absurd (some-none s (sym h))
  place-bound (compares (sum None (product (parenthesised a) factors) rest) c) s h = absurd (some-none s (sym h))
  place-bound (compares (sum None (product (negation f) factors) rest) c) s h = absurd (some-none s (sym h))
  place-bound (compares (sum None (product (designator x path) (more (multiplies o u) factors)) rest) c) s h = absurd (some-none s (sym h))
  place-bound (compares (sum None (product (designator x path) end) (more (adds o u) rest)) c) s h = absurd (some-none s (sym h))
  place-bound (compares (sum None (product (designator x path) end) end) (one (relates r b))) s h = absurd (some-none s (sym h))
  place-bound (compares (sum None (product (designator x path) end) end) none) s h =
      let parts = variable-bound x path s h in
      (parts.0, each-of-both P ((occurrences path ++ []) ++ []) [] (each-of-both P (occurrences path ++ []) [] (each-of-both P (occurrences path) [] parts.1 tt) tt) tt)

  argument-bound : (f : FormalParameter) (e : Tree N expression) → argument_matches_parameter meaning f e ≡ true → Each P (occurrences e)
  unfolding argument_matches_parameter
  argument-bound f e h = by-mode f.mode h
    where
      by-mode : (m : ParameterMode) → same_known_shape (Some f.shape) (elim m [ by_value ↦ type_of_expression meaning e | by_place ↦ assignable_type meaning (lone_designator e) ]) ≡ true → Each P (occurrences e)
      by-mode by_value h = let (s, own, typed) = same_known_shape-true (Some f.shape) (type_of_expression meaning e) h in expression-bound P meaning bound e s typed
      by-mode by_place h = let (s, own, typed) = same_known_shape-true (Some f.shape) (assignable_type meaning (lone_designator e)) h in place-bound e s typed

  abbrev EachBound : List (Tree N expression) → Type 0
  EachBound [] = Unit {0}
  EachBound (e ∷ es) = Each P (occurrences e) × EachBound es

  arguments-bound : (fs : Signature) (es : List (Tree N expression)) → arguments_match_signature meaning fs es ≡ true → EachBound es
  unfolding arguments_match_signature
  arguments-bound [] [] h = tt
  arguments-bound [] (e ∷ es) h = absurd (true≢false (sym h))
  arguments-bound (f ∷ fs) [] h = absurd (true≢false (sym h))
  arguments-bound (f ∷ fs) (e ∷ es) h =
      let parts = and_parts (argument_matches_parameter meaning f e) (arguments_match_signature meaning fs es) h in (argument-bound f e parts.0, arguments-bound fs es parts.1)

  further-listed : (es : Tree N (items argument_after_comma)) → EachBound (further_arguments es) → Each P (occurrences es)
  further-listed end h = tt
  further-listed (more (comma_then_argument e) es) h = each-of-both P (occurrences e) (occurrences es) h.0 (further-listed es h.1)

  all-listed : (es : Tree N (maybe arguments)) → EachBound (call_arguments es) → Each P (occurrences es)
  all-listed none h = tt
  all-listed (one no_arguments) h = tt
  all-listed (one (some_arguments e es)) h = each-of-both P (occurrences e) (occurrences es) h.0 (further-listed es h.1)

  call-bound : (x : N) (es : Tree N (maybe arguments)) → call_is_well_typed meaning (signature_of (meaning.object_for x)) (call_arguments es) ≡ true → Each P (occurrences (calls x es))
  unfolding call_is_well_typed
  call-bound x es h = by-signature (signature_of (meaning.object_for x)) refl h
    where
      by-signature : (s : Option Signature) → signature_of (meaning.object_for x) ≡ s → call_is_well_typed meaning s (call_arguments es) ≡ true → Each P (occurrences (calls x es))
      by-signature None e h = absurd (true≢false (sym h))
      by-signature (Some signature) e h =
          let (o, ho) = name-of signature_of refl (meaning.object_for x) signature e in
          (bound x o ho, all-listed es (arguments-bound signature (call_arguments es) h))

  mutual
    unfolding statement_is_well_typed

    statement-bound : (a : Tree N statement) → statement_is_well_typed meaning a ≡ true → Each P (occurrences a)
    statement-bound empty h = tt
    statement-bound (assigns x path e) h =
        let (s, left, right) = same_known_shape-true (assignable_type meaning (Some (x, path))) (type_of_expression meaning e) h in
        let parts = variable-bound x path s left in
        (parts.0, each-of-both P (occurrences path) (occurrences e) parts.1 (expression-bound P meaning bound e s right))
    statement-bound (calls x es) h = call-bound x es h
    statement-bound (branches e statements rest last) h =
        let first = and_parts (condition_is_boolean meaning e) _ h in
        let second = and_parts (sequence_is_well_typed meaning statements) _ first.1 in
        let third = and_parts (elsifs_are_well_typed meaning rest) _ second.1 in
        each-of-both P (occurrences e) _ (condition-bound e first.0)
        (each-of-both P (occurrences statements) _ (sequence-bound statements second.0) (each-of-both P (occurrences rest) (occurrences last) (elsifs-bound rest third.0) (else-bound last third.1)))
    statement-bound (while_loop e statements) h =
        let parts = and_parts (condition_is_boolean meaning e) _ h in each-of-both P (occurrences e) (occurrences statements) (condition-bound e parts.0) (sequence-bound statements parts.1)
    statement-bound (repeat_loop statements e) h =
        let parts = and_parts (sequence_is_well_typed meaning statements) _ h in each-of-both P (occurrences statements) (occurrences e) (sequence-bound statements parts.0) (condition-bound e parts.1)

    pub sequence-bound : (a : Tree N sequence) → sequence_is_well_typed meaning a ≡ true → Each P (occurrences a)
    sequence-bound (runs a rest) h =
        let parts = and_parts (statement_is_well_typed meaning a) _ h in each-of-both P (occurrences a) (occurrences rest) (statement-bound a parts.0) (statements-bound rest parts.1)

    statements-bound : (a : Tree N (items statement_after_semicolon)) → further_statements_are_well_typed meaning a ≡ true → Each P (occurrences a)
    statements-bound end h = tt
    statements-bound (more (semicolon_then_statement a) rest) h =
        let parts = and_parts (statement_is_well_typed meaning a) _ h in each-of-both P (occurrences a) (occurrences rest) (statement-bound a parts.0) (statements-bound rest parts.1)

    elsifs-bound : (a : Tree N (items elsif_part)) → elsifs_are_well_typed meaning a ≡ true → Each P (occurrences a)
    elsifs-bound end h = tt
    elsifs-bound (more (elsif_branch e statements) rest) h =
        let first = and_parts (condition_is_boolean meaning e) _ h in
        let second = and_parts (sequence_is_well_typed meaning statements) _ first.1 in
        each-of-both P (occurrences e ++ occurrences statements) (occurrences rest) (each-of-both P (occurrences e) (occurrences statements) (condition-bound e first.0) (sequence-bound statements second.0)) (elsifs-bound rest second.1)

    else-bound : (a : Tree N (maybe else_part)) → else_is_well_typed meaning a ≡ true → Each P (occurrences a)
    else-bound none h = tt
    else-bound (one (else_branch statements)) h = sequence-bound statements h
