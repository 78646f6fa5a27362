-- Defines the values of operations in constant expressions.
-- Rule: none; used in contracts about single operations of docs/LANGUAGE.md, Types 6.
use Rattle.std.specs.Prelude.{cond, Some, Option, option_and_then}
use Rattle.ob0_tree.specs.declared.tree.AddOperator.{AddOperator}
use Rattle.ob0_tree.specs.declared.tree.MultiplyOperator.{MultiplyOperator}
use Rattle.ob0_language_types.specs.Typing.{outcome_value}
use Rattle.ob0_language_values.specs.Values.{Value, apply_add_operator, add_operator_short_circuits, apply_multiply_operator, multiply_operator_short_circuits}

-- Returns the value of `+`, `-` or OR with the left operand's value `x`. Returns None if the
-- operation has no result or the right operand has no value. If `x` already decides an OR, the
-- right operand needs no value.
abbrev pub sum_value : AddOperator → Option Value → Value → Option Value
sum_value o right x =
    cond (add_operator_short_circuits o x) (Some x) (option_and_then (λ y. outcome_value (apply_add_operator o x y)) right)

-- Returns the value of `*`, DIV, MOD or `&` with the left operand's value `x`. Returns None if the
-- operation has no result or the right operand has no value. If `x` already decides an `&`, the
-- right operand needs no value.
abbrev pub product_value : MultiplyOperator → Option Value → Value → Option Value
product_value o right x =
    cond (multiply_operator_short_circuits o x) (Some x)
    (option_and_then (λ y. outcome_value (apply_multiply_operator o x y)) right)
