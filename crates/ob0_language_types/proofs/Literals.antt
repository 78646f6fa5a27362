-- The literal that is written for a value has that value, if TRUE and FALSE mean the predeclared constants at its
-- place.
use Rattle.std.proofs.Common.{Some, [], ap, arith, codes, false, if◌then◌else◌, ltb-false, ltb-true, nat_lt, negsuc, option_and_then, pos, refl, subst, suc, sym, true, unwrap_or, ℕ, ◌∙◌, ◌≡◌}
use Rattle.ob0_tree.specs.Tree.{Tree, adds, compares, end, factor, integer, more, none, parenthesised, product, sum}
use Rattle.ob0_language_names.specs.Names.{Name}
use Rattle.ob0_language_values.specs.Values.{Overflow, Place, Shape, Store, Value, value_at_path, elements, ends_run_with, fits_in_32_bits, succeeds_with, integer_shape, members, number, result_or_stuck, truth, ◌>>=◌}
use Rattle.ob0_language_types.specs.EditLaws.{Is32BitScalar}
use Rattle.ob0_language_types.specs.Expressions.{Meanings, a_constant, evaluate_expression, evaluate_factor, object_value}
use Rattle.ob0_language_types.specs.Typing.{type_of_variable_or_constant, type_of_expression, type_of_factor, value_type}
use Rattle.ob0_language_types.specs.ValueLiterals.{number_literal, value_literal}
use Rattle.ob0_tree.specs.declared.tree.Sign.TheVariants as sign
use Rattle.ob0_tree.specs.declared.tree.AddOperator.TheVariants as add_operator

pub some_inverse : {A : Type 0} {a b : A} → Some a ≡ Some b → a ≡ b
some_inverse {A} {a} {b} e = ap (λ o. unwrap_or o a) e

-- holds if the name in a literal, if it has one, means the predeclared constant
abbrev pub IsSeen : {V P : Type 0} → Meanings Name V P → Value → Type 0
IsSeen meaning (truth true) = meaning.object_for (codes "TRUE") ≡ Some (a_constant (truth true))
IsSeen meaning (truth false) = meaning.object_for (codes "FALSE") ≡ Some (a_constant (truth false))
IsSeen meaning _ = Unit {0}

pub least-has_value : {P : Type 0} (meaning : Meanings Name Place P) (store : Store) (n : ℕ) → nat_lt n 2147483647 ≡ false → fits_in_32_bits (negsuc n) ≡ true → evaluate_factor meaning store (number_literal (negsuc n)) ≡ succeeds_with (number (negsuc n))
unfolding evaluate_expression
least-has_value meaning store n e h =
    let at : n ≡ 2147483647 = omega (arith, ltb-false n 2147483647 e, ltb-true n 2147483648 h) in
    subst (λ n. evaluate_factor meaning store (number_literal (negsuc n)) ≡ succeeds_with (number (negsuc n))) (sym at) refl

pub literal-has_value : {P : Type 0} (meaning : Meanings Name Place P) (store : Store) (v : Tree Name factor) (w : Value) → value_literal w ≡ Some v → Is32BitScalar w → IsSeen meaning w → evaluate_factor meaning store v ≡ succeeds_with w
unfolding evaluate_expression
literal-has_value meaning store v (number (pos n)) e h seen = subst (λ v. evaluate_factor meaning store v ≡ succeeds_with (number (pos n))) (some_inverse e) refl
literal-has_value meaning store v (number (negsuc n)) e h seen =
    subst (λ v. evaluate_factor meaning store v ≡ succeeds_with (number (negsuc n))) (some_inverse e)
    ((elim (nat_lt n 2147483647) as (λ b. nat_lt n 2147483647 ≡ b → evaluate_factor meaning store (number_literal (negsuc n)) ≡ succeeds_with (number (negsuc n))) [
      | true ↦ λ l. ap (λ b. evaluate_factor meaning store (if b then parenthesised (compares (sum (Some sign.Minus) (product (integer (suc n)) end) end) none) else parenthesised (compares (sum (Some sign.Minus) (product (integer 2147483647) end) (more (adds add_operator.Subtract (product (integer 1) end)) end)) none))) l
          ∙ ap (λ b. (if b then succeeds_with (number (negsuc n)) else ends_run_with Overflow) >>= (λ v. succeeds_with v)) h
      | false ↦ λ l. least-has_value meaning store n l h
    ]) refl)
literal-has_value {P} meaning store v (truth true) e h seen =
    subst (λ v. evaluate_factor meaning store v ≡ succeeds_with (truth true)) (some_inverse e)
    (ap (λ o. object_value {P = P} store o >>= (λ v. succeeds_with [] >>= (λ steps. result_or_stuck (value_at_path steps v)))) seen)
literal-has_value {P} meaning store v (truth false) e h seen =
    subst (λ v. evaluate_factor meaning store v ≡ succeeds_with (truth false)) (some_inverse e)
    (ap (λ o. object_value {P = P} store o >>= (λ v. succeeds_with [] >>= (λ steps. result_or_stuck (value_at_path steps v)))) seen)
literal-has_value meaning store v (elements vs) e h seen = absurd h
literal-has_value meaning store v (members k ms) e h seen = absurd h

pub literal-typed : {P : Type 0} (meaning : Meanings Name Shape P) (v : Tree Name factor) (w : Value) → value_literal w ≡ Some v → Is32BitScalar w → IsSeen meaning w → type_of_factor meaning v ≡ value_type w
unfolding type_of_expression
literal-typed meaning v (number (pos n)) e h seen = subst (λ v. type_of_factor meaning v ≡ value_type (number (pos n))) (some_inverse e) refl
literal-typed meaning v (number (negsuc n)) e h seen =
    subst (λ v. type_of_factor meaning v ≡ value_type (number (negsuc n))) (some_inverse e)
    (elim (nat_lt n 2147483647) as (λ b. type_of_factor meaning (if b then parenthesised (compares (sum (Some sign.Minus) (product (integer (suc n)) end) end) none) else parenthesised (compares (sum (Some sign.Minus) (product (integer 2147483647) end) (more (adds add_operator.Subtract (product (integer 1) end)) end)) none)) ≡ Some integer_shape)
    [ true ↦ refl | false ↦ refl ])
literal-typed meaning v (truth true) e h seen =
    subst (λ v. type_of_factor meaning v ≡ value_type (truth true)) (some_inverse e) (ap (λ o. option_and_then (λ s. Some s) (type_of_variable_or_constant o)) seen)
literal-typed meaning v (truth false) e h seen =
    subst (λ v. type_of_factor meaning v ≡ value_type (truth false)) (some_inverse e) (ap (λ o. option_and_then (λ s. Some s) (type_of_variable_or_constant o)) seen)
literal-typed meaning v (elements vs) e h seen = absurd h
literal-typed meaning v (members k ms) e h seen = absurd h
