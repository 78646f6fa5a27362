-- Proves that each constant of a module has a scalar value: a truth value, or a number of 32 bits.
-- The integers of a text have at most 31 bits, and each operator gives a scalar for scalars. So the environments of
-- constants have only scalars (`AllScalar`).
use Rattle.std.proofs.Common.{◌≡◌, ℕ, suc, ◌++◌, ◌≤◌, ◌==◌, Bool, true, false, if◌then◌else◌, nat_lt, List, [], ◌∷◌, length, ℤ, pos, ◌+ℤ◌, ◌-ℤ◌, ◌*ℤ◌, neg_ℤ, Some, None, Option, option_map, option_and_then, refl, sym, subst, arith}
use Rattle.std.proofs.lemmas.Bool.{lt-ltb, ltb-false, ltb-true}
use Rattle.ob0_scan.specs.declared.lexeme.TokenKind.TheVariants as token
use Rattle.ob0_scan.specs.TextWithTokens.{IsScan, TextWithTokens}
use Rattle.ob0_tree.specs.declared.tree.Relation.{Relation}
use Rattle.ob0_tree.specs.declared.tree.Relation.TheVariants as relation
use Rattle.ob0_tree.specs.declared.tree.Sign.{Sign}
use Rattle.ob0_tree.specs.declared.tree.Sign.TheVariants as sign
use Rattle.ob0_tree.specs.declared.tree.AddOperator.{AddOperator}
use Rattle.ob0_tree.specs.declared.tree.AddOperator.TheVariants as add_operator
use Rattle.ob0_tree.specs.declared.tree.MultiplyOperator.{MultiplyOperator}
use Rattle.ob0_tree.specs.declared.tree.MultiplyOperator.TheVariants as multiply_operator
use Rattle.ob0_tree.specs.TokenIndexLeaves.{token_text_at, token_value_at}
use Rattle.ob0_tree.specs.Tree.{Tree, addend, adds, block, compares, constant, constants, declares, declares_constant, declares_const_section, declares_procedure, designator, end, expression, factor, forms_block, integer, forms_module, item, items, mapped_tree, maybe, module_text, more, multiplier, multiplies, negation, none, one, parenthesised, procedure, product, relates, simple, sum, term}
use Rattle.ob0_language_names.specs.Names.{Name, naming_by_spelling, same_name}
use Rattle.ob0_language_names.specs.BlockParts.{formal_parameter_names, formal_parameter_sections, declared_type_names, procedure_name, section_constants, section_types, section_variables, variable_names}
use Rattle.ob0_language_names.specs.Scopes.{ordinal_after_names, ordinal_after_procedure, first_procedure_ordinal, first_type_ordinal}
use Rattle.ob0_language_values.specs.declared.scalar.Scalar.{Scalar}
use Rattle.ob0_language_values.specs.declared.scalar.Scalar.TheVariants as scalar
use Rattle.ob0_language_values.specs.Scalars.{scalar_value}
use Rattle.ob0_language_values.specs.Values.{Outcome, Overflow, Place, PathStep, Value, apply_add_operator, add_operator_short_circuits, apply_sign, at_field, at_index, value_at_path, checked_division, division_outcome, elements, ends_run_with, fits_in_32_bits, succeeds_with, checked_number, members, apply_multiply_operator, multiply_operator_short_circuits, apply_not, number, result_or_stuck, quotient, apply_relation, remainder, truth, ◌>>=◌}
use Rattle.ob0_language_types.specs.ConstantValues.{ConstantEnvironment, non_constant_placeholder, predeclared_constants, constant_value_in_section, constant_value_in_block, constant_value_in_procedure, constant_value_in_procedure_list, constant_value_in_module}
use Rattle.ob0_language_types.specs.Declarations.{declare_constants}
use Rattle.ob0_language_types.specs.EditLaws.{Is32BitScalar}
use Rattle.ob0_language_types.specs.Environments.{suffix_from_newest_binding, meanings, newest_object}
use Rattle.ob0_language_types.specs.Expressions.{Meanings, Object, a_constant, a_procedure, a_standard_procedure, a_type, a_variable, evaluate_expression, evaluate_addends, evaluate_factor, evaluate_multipliers, evaluate_simple_expression, evaluate_term, evaluate_selectors, object_value}
use Rattle.ob0_language_types.specs.Typing.{value_of_constant_object, constant_expression_value, meanings_in_constant_expressions, outcome_value, type_of_expression}
use Rattle.ob0_language_types.specs.WellTyped.{bind_names}
use Rattle.ob0_language_types.proofs.Literals.{some_inverse}
use Rattle.ob0_language_types.proofs.TypedElsewhere.{then_some}
use Rattle.ob0_types_table.proofs.TokenNumbers.{small_number, token_value_at-past, token_value_at-read}

-- ---- operators

-- holds if an evaluation gives a scalar, or ends the run
abbrev GivesScalar : Outcome Value → Type 0
GivesScalar (succeeds_with v) = Is32BitScalar v
GivesScalar (ends_run_with e) = Unit {0}

scalar-then : (o : Outcome Value) (next : Value → Outcome Value) → GivesScalar o → ((v : Value) → Is32BitScalar v → GivesScalar (next v)) → GivesScalar (o >>= next)
scalar-then (succeeds_with v) next h each = each v h
scalar-then (ends_run_with e) next h each = tt

any-then : {A : Type 0} (o : Outcome A) (next : A → Outcome Value) → ((a : A) → GivesScalar (next a)) → GivesScalar (o >>= next)
any-then (succeeds_with a) next each = each a
any-then (ends_run_with e) next each = tt

checked_number-scalar : (n : ℤ) → GivesScalar (checked_number n)
checked_number-scalar n = (elim (fits_in_32_bits n) as (λ b. fits_in_32_bits n ≡ b → GivesScalar (if b then succeeds_with (number n) else ends_run_with Overflow)) [ true ↦ λ e. e | false ↦ λ e. tt ]) refl

checked_division-scalar : (result : Option ℤ) → GivesScalar (division_outcome result)
checked_division-scalar None = tt
checked_division-scalar (Some n) = checked_number-scalar n

add-scalar : (o : AddOperator) (v w : Value) → GivesScalar (apply_add_operator o v w)
add-scalar add_operator.Add (number a) (number b) = checked_number-scalar (a +ℤ b)
add-scalar add_operator.Subtract (number a) (number b) = checked_number-scalar (a -ℤ b)
add-scalar add_operator.Or (truth a) (truth b) = tt
add-scalar _ _ _ = tt

multiply-scalar : (o : MultiplyOperator) (v w : Value) → GivesScalar (apply_multiply_operator o v w)
multiply-scalar multiply_operator.Multiply (number a) (number b) = checked_number-scalar (a *ℤ b)
multiply-scalar multiply_operator.Divide (number a) (number b) = checked_division-scalar (checked_division quotient a b)
multiply-scalar multiply_operator.Modulo (number a) (number b) = checked_division-scalar (checked_division remainder a b)
multiply-scalar multiply_operator.And (truth a) (truth b) = tt
multiply-scalar _ _ _ = tt

apply_relation-scalar : (r : Relation) (v w : Value) → GivesScalar (apply_relation r v w)
apply_relation-scalar r (number a) (number b) = tt
apply_relation-scalar relation.Equal (truth a) (truth b) = tt
apply_relation-scalar relation.NotEqual (truth a) (truth b) = tt
apply_relation-scalar _ _ _ = tt

sign-scalar : (s : Option Sign) (v : Value) → Is32BitScalar v → GivesScalar (apply_sign s v)
sign-scalar None v h = h
sign-scalar (Some sign.Plus) (number a) h = checked_number-scalar a
sign-scalar (Some sign.Minus) (number a) h = checked_number-scalar (neg_ℤ a)
sign-scalar (Some _) _ h = tt

negate-scalar : (v : Value) → GivesScalar (apply_not v)
negate-scalar (truth b) = tt
negate-scalar _ = tt

settled-scalar : (b : Bool) (x : Value) (o : Outcome Value) → Is32BitScalar x → GivesScalar o → GivesScalar (elim b [ true ↦ succeeds_with x | false ↦ o ])
settled-scalar true x o h k = h
settled-scalar false x o h k = k

-- A scalar has no parts.
path-scalar : (steps : List PathStep) (v : Value) → Is32BitScalar v → GivesScalar (result_or_stuck (value_at_path steps v))
path-scalar [] v h = h
path-scalar (at_index i ∷ steps) (number n) h = tt
path-scalar (at_field x ∷ steps) (number n) h = tt
path-scalar (at_index i ∷ steps) (truth b) h = tt
path-scalar (at_field x ∷ steps) (truth b) h = tt
path-scalar (s ∷ steps) (elements vs) h = absurd h
path-scalar (s ∷ steps) (members k ms) h = absurd h

-- ---- expressions

-- holds if a name means a constant with a scalar value, or nothing
abbrev HasScalar : Option (Object Place (Unit {0})) → Type 0
HasScalar None = Unit {0}
HasScalar (Some (a_constant v)) = Is32BitScalar v
HasScalar (Some (a_type s)) = ⊥
HasScalar (Some (a_variable p)) = ⊥
HasScalar (Some (a_procedure p)) = ⊥
HasScalar (Some (a_standard_procedure p)) = ⊥

object-scalar : (o : Option (Object Place (Unit {0}))) → HasScalar o → GivesScalar (object_value {P = Unit {0}} [] o)
object-scalar None h = tt
object-scalar (Some (a_constant v)) h = h
object-scalar (Some (a_type s)) h = absurd h
object-scalar (Some (a_variable p)) h = absurd h
object-scalar (Some (a_procedure p)) h = absurd h
object-scalar (Some (a_standard_procedure p)) h = absurd h

small-scalar : (n : ℕ) → n ≤ 2147483647 → Is32BitScalar (number (pos n))
small-scalar n low = lt-ltb n 2147483648 (omega (arith, low))

module _ (f : ℕ → Name) (g : ℕ → ℕ) (small : (i : ℕ) → g i ≤ 2147483647) where
  module _ (meaning : Meanings Name Place (Unit {0})) (known : (x : Name) → HasScalar (meaning.object_for x)) where
    mutual
      unfolding evaluate_expression

      expression-scalar : (e : Tree ℕ expression) → GivesScalar (evaluate_expression meaning [] (mapped_tree f g e))
      expression-scalar (compares a none) = simple-scalar a
      expression-scalar (compares a (one (relates r b))) =
          scalar-then (evaluate_simple_expression meaning [] (mapped_tree f g a)) (λ x. evaluate_simple_expression meaning [] (mapped_tree f g b) >>= apply_relation r x) (simple-scalar a)
          (λ x h. scalar-then (evaluate_simple_expression meaning [] (mapped_tree f g b)) (apply_relation r x) (simple-scalar b) (λ y k. apply_relation-scalar r x y))

      simple-scalar : (a : Tree ℕ simple) → GivesScalar (evaluate_simple_expression meaning [] (mapped_tree f g a))
      simple-scalar (sum s t rest) =
          scalar-then (evaluate_term meaning [] (mapped_tree f g t)) (λ x. apply_sign s x >>= (λ y. evaluate_addends meaning [] y (mapped_tree f g rest))) (term-scalar t)
          (λ x h. scalar-then (apply_sign s x) (λ y. evaluate_addends meaning [] y (mapped_tree f g rest)) (sign-scalar s x h) (λ y k. addends-scalar y k rest))

      addends-scalar : (x : Value) → Is32BitScalar x → (a : Tree ℕ (items addend)) → GivesScalar (evaluate_addends meaning [] x (mapped_tree f g a))
      addends-scalar x h end = h
      addends-scalar x h (more (adds o t) rest) =
          scalar-then (elim (add_operator_short_circuits o x) [ true ↦ succeeds_with x | false ↦ evaluate_term meaning [] (mapped_tree f g t) >>= apply_add_operator o x ]) (λ y. evaluate_addends meaning [] y (mapped_tree f g rest))
          (settled-scalar (add_operator_short_circuits o x) x (evaluate_term meaning [] (mapped_tree f g t) >>= apply_add_operator o x) h (scalar-then (evaluate_term meaning [] (mapped_tree f g t)) (apply_add_operator o x) (term-scalar t) (λ y k. add-scalar o x y)))
          (λ y k. addends-scalar y k rest)

      term-scalar : (t : Tree ℕ term) → GivesScalar (evaluate_term meaning [] (mapped_tree f g t))
      term-scalar (product a rest) =
          scalar-then (evaluate_factor meaning [] (mapped_tree f g a)) (λ x. evaluate_multipliers meaning [] x (mapped_tree f g rest)) (factor-scalar a) (λ x h. multipliers-scalar x h rest)

      multipliers-scalar : (x : Value) → Is32BitScalar x → (a : Tree ℕ (items multiplier)) → GivesScalar (evaluate_multipliers meaning [] x (mapped_tree f g a))
      multipliers-scalar x h end = h
      multipliers-scalar x h (more (multiplies o a) rest) =
          scalar-then (elim (multiply_operator_short_circuits o x) [ true ↦ succeeds_with x | false ↦ evaluate_factor meaning [] (mapped_tree f g a) >>= apply_multiply_operator o x ]) (λ y. evaluate_multipliers meaning [] y (mapped_tree f g rest))
          (settled-scalar (multiply_operator_short_circuits o x) x (evaluate_factor meaning [] (mapped_tree f g a) >>= apply_multiply_operator o x) h (scalar-then (evaluate_factor meaning [] (mapped_tree f g a)) (apply_multiply_operator o x) (factor-scalar a) (λ y k. multiply-scalar o x y)))
          (λ y k. multipliers-scalar y k rest)

      factor-scalar : (a : Tree ℕ factor) → GivesScalar (evaluate_factor meaning [] (mapped_tree f g a))
      factor-scalar (designator x path) =
          scalar-then (object_value [] (meaning.object_for (f x))) (λ v. evaluate_selectors meaning [] v (mapped_tree f g path) >>= (λ steps. result_or_stuck (value_at_path steps v))) (object-scalar (meaning.object_for (f x)) (known (f x)))
          (λ v h. any-then (evaluate_selectors meaning [] v (mapped_tree f g path)) (λ steps. result_or_stuck (value_at_path steps v)) (λ steps. path-scalar steps v h))
      factor-scalar (integer n) = small-scalar (g n) (small n)
      factor-scalar (parenthesised e) = expression-scalar e
      factor-scalar (negation a) = scalar-then (evaluate_factor meaning [] (mapped_tree f g a)) apply_not (factor-scalar a) (λ v h. negate-scalar v)

  -- ---- declarations

  -- holds if an object isn't a constant, or is one with a scalar value
  abbrev ScalarObject : Object (Unit {0}) (Unit {0}) → Type 0
  ScalarObject (a_constant v) = Is32BitScalar v
  ScalarObject (a_type s) = Unit {0}
  ScalarObject (a_variable p) = Unit {0}
  ScalarObject (a_procedure p) = Unit {0}
  ScalarObject (a_standard_procedure p) = Unit {0}

  -- holds if all constants of an environment have scalar values
  abbrev AllScalar : ConstantEnvironment → Type 0
  AllScalar [] = Unit {0}
  AllScalar (b ∷ known) = ScalarObject b.1 × AllScalar known

  only-scalar : (o : Object (Unit {0}) (Unit {0})) → ScalarObject o → HasScalar (option_map a_constant (value_of_constant_object (Some o)))
  only-scalar (a_constant v) h = h
  only-scalar (a_type s) h = tt
  only-scalar (a_variable p) h = tt
  only-scalar (a_procedure p) h = tt
  only-scalar (a_standard_procedure p) h = tt

  looked-up : (known : ConstantEnvironment) → AllScalar known → (x : Name) → HasScalar ((meanings_in_constant_expressions {W = Place} {Q = Unit {0}} (meanings naming_by_spelling known)).object_for x)
  looked-up [] h x = tt
  looked-up (b ∷ known) h x =
      elim (same_name x b.0) as (λ t. HasScalar (option_map a_constant (value_of_constant_object (newest_object (elim t [ true ↦ b ∷ known | false ↦ suffix_from_newest_binding naming_by_spelling known x ])))))
      [ true ↦ only-scalar b.1 h.0 | false ↦ looked-up known h.1 x ]

  given-scalar : (o : Outcome Value) (v : Value) → GivesScalar o → outcome_value o ≡ Some v → Is32BitScalar v
  given-scalar (succeeds_with w) v h e = subst Is32BitScalar (some_inverse e) h
  given-scalar (ends_run_with x) v h e = absurd (cc)

  constant-scalar : (known : ConstantEnvironment) → AllScalar known → (e : Tree ℕ expression) (v : Value) → constant_expression_value (meanings naming_by_spelling known) (mapped_tree f g e) ≡ Some v → Is32BitScalar v
  unfolding constant_expression_value
  constant-scalar known h e v q =
      let meaning : Meanings Name Place (Unit {0}) = meanings_in_constant_expressions (meanings naming_by_spelling known) in
      let found = then_some (type_of_expression {P = Unit {0}} (meanings_in_constant_expressions (meanings naming_by_spelling known)) (mapped_tree f g e)) (λ s. outcome_value (evaluate_expression {P = Unit {0}} (meanings_in_constant_expressions (meanings naming_by_spelling known)) [] (mapped_tree f g e))) v q in
      given-scalar (evaluate_expression meaning [] (mapped_tree f g e)) v (expression-scalar meaning (looked-up known h) e) found.2

  bound-scalar : (xs : List Name) (known : ConstantEnvironment) → AllScalar known → AllScalar (bind_names xs non_constant_placeholder known)
  bound-scalar [] known h = h
  bound-scalar (x ∷ xs) known h = bound-scalar xs ((x, non_constant_placeholder) ∷ known) (tt, h)

  declared-scalar : (cs : Tree ℕ (items constant)) (known inner : ConstantEnvironment) → AllScalar known → declare_constants naming_by_spelling known (mapped_tree f g cs) ≡ Some inner → AllScalar inner
  unfolding declare_constants
  declared-scalar end known inner h q = subst AllScalar (some_inverse q) h
  declared-scalar (more (declares_constant x e) cs) known inner h q =
      let found = then_some (constant_expression_value (meanings naming_by_spelling known) (mapped_tree f g e)) (λ v. declare_constants naming_by_spelling ((f x, a_constant v) ∷ known) (mapped_tree f g cs)) inner q in
      declared-scalar cs ((f x, a_constant found.0) ∷ known) inner (constant-scalar known h e found.0 found.1, h) found.2

  among-scalar : (cs : Tree ℕ (items constant)) (known : ConstantEnvironment) (d k : ℕ) (w : Value) → AllScalar known → constant_value_in_section known d k (mapped_tree f g cs) ≡ Some w → Is32BitScalar w
  unfolding constant_value_in_section
  among-scalar end known d k w h q = absurd (cc)
  among-scalar (more (declares_constant x e) cs) known d k w h q =
      let found = then_some (constant_expression_value (meanings naming_by_spelling known) (mapped_tree f g e)) (λ v. if k == d then Some v else constant_value_in_section ((f x, a_constant v) ∷ known) d (suc k) (mapped_tree f g cs)) w q in
      let scalar_so = constant-scalar known h e found.0 found.1 in
      (elim (k == d) as (λ b. (if b then Some found.0 else constant_value_in_section ((f x, a_constant found.0) ∷ known) d (suc k) (mapped_tree f g cs)) ≡ Some w → Is32BitScalar w)
      [ true ↦ λ e. subst Is32BitScalar (some_inverse e) scalar_so | false ↦ λ e. among-scalar cs ((f x, a_constant found.0) ∷ known) d (suc k) w (scalar_so, h) e ]) found.2

  section-scalar : (cs : Tree ℕ (maybe constants)) (known : ConstantEnvironment) (d k : ℕ) (w : Value) → AllScalar known → constant_value_in_section known d k (section_constants (mapped_tree f g cs)) ≡ Some w → Is32BitScalar w
  section-scalar none known d k w h q = among-scalar end known d k w h q
  section-scalar (one (declares_const_section cs)) known d k w h q = among-scalar cs known d k w h q

  section-declared : (cs : Tree ℕ (maybe constants)) (known inner : ConstantEnvironment) → AllScalar known → declare_constants naming_by_spelling known (section_constants (mapped_tree f g cs)) ≡ Some inner → AllScalar inner
  section-declared none known inner h q = declared-scalar end known inner h q
  section-declared (one (declares_const_section cs)) known inner h q = declared-scalar cs known inner h q

  chosen : {A : Type 0} (b : Bool) (x y : Option A) (P : A → Type 0) (a : A) → ((a : A) → x ≡ Some a → P a) → ((a : A) → y ≡ Some a → P a) → (if b then x else y) ≡ Some a → P a
  chosen true x y P a h k e = h a e
  chosen false x y P a h k e = k a e

  nothing : (w : Value) → None ≡ Some w → Is32BitScalar w
  nothing w e = absurd (cc)

  mutual
    unfolding constant_value_in_block

    block-scalar : (b : Tree ℕ block) (known : ConstantEnvironment) (d k : ℕ) (w : Value) → AllScalar known → constant_value_in_block known d k (mapped_tree f g b) ≡ Some w → Is32BitScalar w
    block-scalar (forms_block (declares cs ts vs ps) statements) known d k w h q =
        let whole = mapped_tree f g (forms_block (declares cs ts vs ps) statements) in
        let more_names = declared_type_names (section_types (mapped_tree f g ts)) ++ variable_names (section_variables (mapped_tree f g vs)) in
        let others = option_and_then (λ inner. constant_value_in_procedure_list (bind_names more_names non_constant_placeholder inner) d (first_procedure_ordinal k whole) (mapped_tree f g ps)) (declare_constants naming_by_spelling known (section_constants (mapped_tree f g cs))) in
        chosen (nat_lt d (first_type_ordinal k whole)) (constant_value_in_section known d k (section_constants (mapped_tree f g cs))) (if nat_lt d (first_procedure_ordinal k whole) then None else others) Is32BitScalar w
        (λ v e. section-scalar cs known d k v h e)
        (λ v e. chosen (nat_lt d (first_procedure_ordinal k whole)) None others Is32BitScalar v nothing
        (λ u p.
        let found = then_some (declare_constants naming_by_spelling known (section_constants (mapped_tree f g cs))) (λ inner. constant_value_in_procedure_list (bind_names more_names non_constant_placeholder inner) d (first_procedure_ordinal k whole) (mapped_tree f g ps)) u p in
        procedures-scalar ps (bind_names more_names non_constant_placeholder found.0) d (first_procedure_ordinal k whole) u (bound-scalar more_names found.0 (section-declared cs known found.0 h found.1)) found.2)
        e) q

    procedures-scalar : (ps : Tree ℕ (items procedure)) (known : ConstantEnvironment) (d k : ℕ) (w : Value) → AllScalar known → constant_value_in_procedure_list known d k (mapped_tree f g ps) ≡ Some w → Is32BitScalar w
    procedures-scalar end known d k w h q = absurd (cc)
    procedures-scalar (more p rest) known d k w h q =
        let inner : ConstantEnvironment = (procedure_name (mapped_tree f g p), non_constant_placeholder) ∷ known in
        chosen (nat_lt d (ordinal_after_procedure (suc k) (mapped_tree f g p))) (constant_value_in_procedure inner d (suc k) (mapped_tree f g p)) (constant_value_in_procedure_list inner d (ordinal_after_procedure (suc k) (mapped_tree f g p)) (mapped_tree f g rest)) Is32BitScalar w
        (λ v e. procedure-scalar p inner d (suc k) v (tt, h) e)
        (λ v e. procedures-scalar rest inner d (ordinal_after_procedure (suc k) (mapped_tree f g p)) v (tt, h) e) q

    procedure-scalar : (p : Tree ℕ (item procedure)) (known : ConstantEnvironment) (d k : ℕ) (w : Value) → AllScalar known → constant_value_in_procedure known d k (mapped_tree f g p) ≡ Some w → Is32BitScalar w
    procedure-scalar (declares_procedure x fs b closing) known d k w h q =
        let ns = formal_parameter_names (formal_parameter_sections (mapped_tree f g fs)) in
        chosen (nat_lt d (ordinal_after_names k ns)) None (constant_value_in_block (bind_names ns non_constant_placeholder known) d (ordinal_after_names k ns) (mapped_tree f g b)) Is32BitScalar w
        nothing
        (λ v e. block-scalar b (bind_names ns non_constant_placeholder known) d (ordinal_after_names k ns) v (bound-scalar ns known h) e) q

  module-scalar : (m : Tree ℕ module_text) (d : ℕ) (w : Value) → constant_value_in_module (mapped_tree f g m) d ≡ Some w → Is32BitScalar w
  unfolding constant_value_in_module
  module-scalar (forms_module x b closing) d w q =
      chosen (nat_lt d 7) None (constant_value_in_block predeclared_constants d 7 (mapped_tree f g b)) Is32BitScalar w nothing
      (λ v e. block-scalar b predeclared_constants d 7 v (tt, (tt, (tt, (tt, (tt, (tt, (tt, tt))))))) e) q

-- ---- texts

value-small : (s : TextWithTokens) → IsScan s → (i : ℕ) → token_value_at s i ≤ 2147483647
value-small s scan i = go (nat_lt i (length s.tokens)) refl
  where
    go : (b : Bool) → nat_lt i (length s.tokens) ≡ b → token_value_at s i ≤ 2147483647
    go true e =
        let less = ltb-true i (length s.tokens) e in
        subst (λ n. n ≤ 2147483647) (sym (token_value_at-read s i (record { kind = token.Identifier; span = record { start = 0; end = 0 } }) less)) (small_number s scan i (record { kind = token.Identifier; span = record { start = 0; end = 0 } }) less)
    go false e = subst (λ n. n ≤ 2147483647) (sym (token_value_at-past s i (ltb-false i (length s.tokens) e))) (omega arith)

-- Each constant of a text has a scalar value.
pub constant_scalar : (s : TextWithTokens) → IsScan s → (m : Tree ℕ module_text) (d : ℕ) (w : Value) → constant_value_in_module (mapped_tree (token_text_at s) (token_value_at s) m) d ≡ Some w → Is32BitScalar w
constant_scalar s scan m d w e = module-scalar (token_text_at s) (token_value_at s) (value-small s scan) m d w e

-- The code has a scalar for each scalar value.
pub scalar_of : (w : Value) → Is32BitScalar w → (v : Scalar) × (scalar_value v ≡ w)
scalar_of (number n) h = (scalar.Number n, refl)
scalar_of (truth b) h = (scalar.Truth b, refl)
scalar_of (elements vs) h = absurd h
scalar_of (members k ms) h = absurd h
