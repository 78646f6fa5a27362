-- A constant expression evaluates to a number or a truth value if all its constants are numbers or
-- truth values.
use Rattle.std.proofs.Common.{◌≡◌, Bool, true, false, ℤ, ◌+ℤ◌, ◌-ℤ◌, ◌*ℤ◌, neg_ℤ, List, [], ◌∷◌, if◌then◌else◌, Some, None, Option, option_map, option_and_then, refl, sym, ap, ◌∙◌, subst}
use Rattle.ob0_tree.specs.declared.tree.Relation.{Relation}
use Rattle.ob0_tree.specs.declared.tree.Relation.TheVariants as relation
use Rattle.ob0_tree.specs.declared.tree.Sign.{Sign}
use Rattle.ob0_tree.specs.declared.tree.Sign.TheVariants as sign
use Rattle.ob0_tree.specs.declared.tree.AddOperator.{AddOperator}
use Rattle.ob0_tree.specs.declared.tree.AddOperator.TheVariants as add_operator
use Rattle.ob0_tree.specs.declared.tree.MultiplyOperator.{MultiplyOperator}
use Rattle.ob0_tree.specs.declared.tree.MultiplyOperator.TheVariants as multiply_operator
use Rattle.ob0_tree.specs.Tree.{Tree, addend, adds, compares, designator, end, expression, factor, integer, items, more, multiplier, multiplies, negation, none, one, parenthesised, product, relates, simple, sum, term}
use Rattle.ob0_language_names.specs.Names.{Name}
use Rattle.ob0_language_types.specs.Expressions.{Meanings, Object, a_constant, evaluate_expression, evaluate_addends, evaluate_factor, evaluate_multipliers, evaluate_simple_expression, evaluate_term, evaluate_selectors, object_value}
use Rattle.ob0_language_types.specs.Typing.{value_of_constant_object, constant_expression_value, meanings_in_constant_expressions, outcome_value, type_of_expression}
use Rattle.ob0_language_values.specs.Values.{Outcome, Overflow, Place, Shape, PathStep, Value, apply_add_operator, add_operator_short_circuits, value_at_path, checked_division, division_outcome, elements, ends_run_with, fits_in_32_bits, succeeds_with, checked_number, members, apply_multiply_operator, multiply_operator_short_circuits, apply_not, number, result_or_stuck, quotient, apply_relation, remainder, apply_sign, truth, ◌>>=◌}
use Rattle.ob0_language_field_laws.proofs.FieldRenamedExpressions.{Scalar, logical, scalar_value, whole}
use Rattle.ob0_language_fields.proofs.MeaningsByName.{named}

abbrev pub IsScalarValue : Value → Type 0
IsScalarValue (elements vs) = ⊥
IsScalarValue (members k ms) = ⊥
IsScalarValue _ = Unit {0}

abbrev pub Holds : {A : Type 0} → (A → Type 0) → Outcome A → Type 0
Holds P (succeeds_with a) = P a
Holds P (ends_run_with e) = Unit {0}

holds-then : {A B : Type 0} (P : B → Type 0) (o : Outcome A) (next : A → Outcome B) → ((a : A) → Holds P (next a)) → Holds P (o >>= next)
holds-then P (succeeds_with a) next each = each a
holds-then P (ends_run_with e) next each = tt

-- If a step gives values with one property and the next step turns them into values with another, both steps together
-- give values with the latter.
holds-with : {A B : Type 0} (Q : A → Type 0) (P : B → Type 0) (o : Outcome A) (next : A → Outcome B) → Holds Q o → ((a : A) → Q a → Holds P (next a)) → Holds P (o >>= next)
holds-with Q P (succeeds_with a) next h each = each a h
holds-with Q P (ends_run_with e) next h each = tt

checked_number-scalar : (n : ℤ) → Holds IsScalarValue (checked_number n)
checked_number-scalar n = elim (fits_in_32_bits n) as (λ b. Holds IsScalarValue (if b then succeeds_with (number n) else ends_run_with Overflow)) [ true ↦ tt | false ↦ tt ]

division_outcome-scalar : (result : Option ℤ) → Holds IsScalarValue (division_outcome result)
division_outcome-scalar None = tt
division_outcome-scalar (Some n) = checked_number-scalar n

add-scalar : (o : AddOperator) (v w : Value) → Holds IsScalarValue (apply_add_operator o v w)
add-scalar add_operator.Add (number a) (number b) = checked_number-scalar (a +ℤ b)
add-scalar add_operator.Subtract (number a) (number b) = checked_number-scalar (a -ℤ b)
add-scalar add_operator.Or (truth a) (truth b) = tt
add-scalar _ _ _ = tt

multiply-scalar : (o : MultiplyOperator) (v w : Value) → Holds IsScalarValue (apply_multiply_operator o v w)
multiply-scalar multiply_operator.Multiply (number a) (number b) = checked_number-scalar (a *ℤ b)
multiply-scalar multiply_operator.Divide (number a) (number b) = division_outcome-scalar (checked_division quotient a b)
multiply-scalar multiply_operator.Modulo (number a) (number b) = division_outcome-scalar (checked_division remainder a b)
multiply-scalar multiply_operator.And (truth a) (truth b) = tt
multiply-scalar _ _ _ = tt

apply_relation-scalar : (r : Relation) (v w : Value) → Holds IsScalarValue (apply_relation r v w)
apply_relation-scalar r (number a) (number b) = tt
apply_relation-scalar relation.Equal (truth a) (truth b) = tt
apply_relation-scalar relation.NotEqual (truth a) (truth b) = tt
apply_relation-scalar _ _ _ = tt

apply_sign-scalar : (s : Option Sign) (v : Value) → IsScalarValue v → Holds IsScalarValue (apply_sign s v)
apply_sign-scalar None v h = h
apply_sign-scalar (Some sign.Plus) (number a) h = checked_number-scalar a
apply_sign-scalar (Some sign.Minus) (number a) h = checked_number-scalar (neg_ℤ a)
apply_sign-scalar _ _ h = tt

negate-scalar : (v : Value) → Holds IsScalarValue (apply_not v)
negate-scalar (truth b) = tt
negate-scalar _ = tt

settled-scalar : (b : Bool) (v : Value) (o : Outcome Value) → IsScalarValue v → Holds IsScalarValue o → Holds IsScalarValue (elim b [ true ↦ succeeds_with v | false ↦ o ])
settled-scalar true v o h k = h
settled-scalar false v o h k = k

-- A scalar has no parts, so following a path from it gives a scalar or no value.
value_at_path-scalar : (steps : List PathStep) (v : Value) → IsScalarValue v → Holds IsScalarValue (result_or_stuck (value_at_path steps v))
value_at_path-scalar [] v h = h
value_at_path-scalar (s ∷ steps) (elements vs) h = absurd h
value_at_path-scalar (s ∷ steps) (members k ms) h = absurd h
value_at_path-scalar _ _ h = tt

abbrev pub Constants : Type 0
Constants = Name → Option Scalar

abbrev pub constant_meaning : Constants → Meanings Name Place (Unit {0})
constant_meaning constants = named (λ x. option_map (λ c. a_constant (scalar_value c)) (constants x))

object_value-scalar : (o : Option Scalar) → Holds IsScalarValue (object_value {P = Unit {0}} [] (option_map (λ c. a_constant (scalar_value c)) o))
object_value-scalar (Some (whole n)) = tt
object_value-scalar _ = tt

mutual
  unfolding evaluate_expression

  evaluate-scalar : (cs : Constants) (e : Tree Name expression) → Holds IsScalarValue (evaluate_expression {P = Unit {0}} (constant_meaning cs) [] e)
  evaluate-scalar cs (compares a none) = evaluate_simple_expression-scalar cs a
  evaluate-scalar cs (compares a (one (relates r b))) =
      holds-then IsScalarValue (evaluate_simple_expression {P = Unit {0}} (constant_meaning cs) [] a) (λ x. evaluate_simple_expression {P = Unit {0}} (constant_meaning cs) [] b >>= apply_relation r x)
      (λ x. holds-then IsScalarValue (evaluate_simple_expression {P = Unit {0}} (constant_meaning cs) [] b) (apply_relation r x) (apply_relation-scalar r x))

  evaluate_simple_expression-scalar : (cs : Constants) (a : Tree Name simple) → Holds IsScalarValue (evaluate_simple_expression {P = Unit {0}} (constant_meaning cs) [] a)
  evaluate_simple_expression-scalar cs (sum s t rest) =
      holds-with IsScalarValue IsScalarValue (evaluate_term {P = Unit {0}} (constant_meaning cs) [] t) (λ x. apply_sign s x >>= (λ y. evaluate_addends {P = Unit {0}} (constant_meaning cs) [] y rest)) (evaluate_term-scalar cs t)
      (λ x hx. holds-with IsScalarValue IsScalarValue (apply_sign s x) (λ y. evaluate_addends {P = Unit {0}} (constant_meaning cs) [] y rest) (apply_sign-scalar s x hx) (λ y hy. evaluate_addends-scalar cs y rest hy))

  evaluate_addends-scalar : (cs : Constants) (v : Value) (a : Tree Name (items addend)) → IsScalarValue v → Holds IsScalarValue (evaluate_addends {P = Unit {0}} (constant_meaning cs) [] v a)
  evaluate_addends-scalar cs v end h = h
  evaluate_addends-scalar cs v (more (adds o t) rest) h =
      holds-with IsScalarValue IsScalarValue (elim (add_operator_short_circuits o v) [ true ↦ succeeds_with v | false ↦ evaluate_term {P = Unit {0}} (constant_meaning cs) [] t >>= apply_add_operator o v ]) (λ y. evaluate_addends {P = Unit {0}} (constant_meaning cs) [] y rest)
      (settled-scalar (add_operator_short_circuits o v) v (evaluate_term {P = Unit {0}} (constant_meaning cs) [] t >>= apply_add_operator o v) h (holds-then IsScalarValue (evaluate_term {P = Unit {0}} (constant_meaning cs) [] t) (apply_add_operator o v) (add-scalar o v)))
      (λ y hy. evaluate_addends-scalar cs y rest hy)

  evaluate_term-scalar : (cs : Constants) (a : Tree Name term) → Holds IsScalarValue (evaluate_term {P = Unit {0}} (constant_meaning cs) [] a)
  evaluate_term-scalar cs (product a rest) =
      holds-with IsScalarValue IsScalarValue (evaluate_factor {P = Unit {0}} (constant_meaning cs) [] a) (λ y. evaluate_multipliers {P = Unit {0}} (constant_meaning cs) [] y rest) (evaluate_factor-scalar cs a) (λ y hy. evaluate_multipliers-scalar cs y rest hy)

  evaluate_multipliers-scalar : (cs : Constants) (v : Value) (a : Tree Name (items multiplier)) → IsScalarValue v → Holds IsScalarValue (evaluate_multipliers {P = Unit {0}} (constant_meaning cs) [] v a)
  evaluate_multipliers-scalar cs v end h = h
  evaluate_multipliers-scalar cs v (more (multiplies o t) rest) h =
      holds-with IsScalarValue IsScalarValue (elim (multiply_operator_short_circuits o v) [ true ↦ succeeds_with v | false ↦ evaluate_factor {P = Unit {0}} (constant_meaning cs) [] t >>= apply_multiply_operator o v ]) (λ y. evaluate_multipliers {P = Unit {0}} (constant_meaning cs) [] y rest)
      (settled-scalar (multiply_operator_short_circuits o v) v (evaluate_factor {P = Unit {0}} (constant_meaning cs) [] t >>= apply_multiply_operator o v) h (holds-then IsScalarValue (evaluate_factor {P = Unit {0}} (constant_meaning cs) [] t) (apply_multiply_operator o v) (multiply-scalar o v)))
      (λ y hy. evaluate_multipliers-scalar cs y rest hy)

  evaluate_factor-scalar : (cs : Constants) (a : Tree Name factor) → Holds IsScalarValue (evaluate_factor {P = Unit {0}} (constant_meaning cs) [] a)
  evaluate_factor-scalar cs (designator x path) =
      holds-with IsScalarValue IsScalarValue (object_value {P = Unit {0}} [] (option_map (λ c. a_constant (scalar_value c)) (cs x))) (λ v. evaluate_selectors {P = Unit {0}} (constant_meaning cs) [] v path >>= (λ steps. result_or_stuck (value_at_path steps v))) (object_value-scalar (cs x))
      (λ v hv. holds-then IsScalarValue (evaluate_selectors {P = Unit {0}} (constant_meaning cs) [] v path) (λ steps. result_or_stuck (value_at_path steps v)) (λ steps. value_at_path-scalar steps v hv))
  evaluate_factor-scalar cs (integer n) = tt
  evaluate_factor-scalar cs (parenthesised e) = evaluate-scalar cs e
  evaluate_factor-scalar cs (negation a) = holds-then IsScalarValue (evaluate_factor {P = Unit {0}} (constant_meaning cs) [] a) apply_not negate-scalar

scalar_is : (v : Value) → IsScalarValue v → (c : Scalar) × (v ≡ scalar_value c)
scalar_is (number n) h = (whole n, refl)
scalar_is (truth b) h = (logical b, refl)
scalar_is _ h = absurd h

given-scalar : (o : Outcome Value) → Holds IsScalarValue o → (c : Option Scalar) × (outcome_value o ≡ option_map scalar_value c)
given-scalar (succeeds_with v) h = let s = scalar_is v h in (Some s.0, ap Some s.1)
given-scalar (ends_run_with e) h = (None, refl)

abbrev as_constant : Value → Object Place (Unit {0})
as_constant v = a_constant v

-- A constant expression whose names mean only scalars has a scalar value, or none.
pub constant_expression_value-scalar : {V P : Type 0} (objects : Name → Option (Object V P)) (cs : Constants) → ((x : Name) → value_of_constant_object (objects x) ≡ option_map scalar_value (cs x)) → (e : Tree Name expression)
    → (c : Option Scalar) × (constant_expression_value (named objects) e ≡ option_map scalar_value c)
unfolding constant_expression_value
constant_expression_value-scalar objects cs same e = of_type (type_of_expression {P = Unit {0}} (meanings_in_constant_expressions (named objects)) e)
  where
    only-constants : meanings_in_constant_expressions {W = Place} {Q = Unit {0}} (named objects) ≡ constant_meaning cs
    only-constants = λ i. named (λ x. (ap (option_map as_constant) (same x) ∙ twice (cs x)) i)
      where
        twice : (o : Option Scalar) → option_map as_constant (option_map scalar_value o) ≡ option_map (λ c. a_constant (scalar_value c)) o
        twice None = refl
        twice (Some c) = refl

    of_type : (o : Option Shape) → (c : Option Scalar) × (option_and_then (λ s. outcome_value (evaluate_expression {P = Unit {0}} (meanings_in_constant_expressions (named objects)) [] e)) o ≡ option_map scalar_value c)
    of_type None = (None, refl)
    of_type (Some s) = given-scalar (evaluate_expression {P = Unit {0}} (meanings_in_constant_expressions (named objects)) [] e) (subst (λ m. Holds IsScalarValue (evaluate_expression {P = Unit {0}} m [] e)) (sym only-constants) (evaluate-scalar cs e))
