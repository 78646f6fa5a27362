-- Defines types, values, places and the store, and the results of operators.
-- Rule: docs/LANGUAGE.md, Types 1, Runs 2 to 5, 10.
use Rattle.std.specs.Prelude.{ℕ, zero, suc, ◌^◌, Bool, true, false, not, ◌&&◌, ◌||◌, List, [], ◌∷◌, ℤ, pos, negsuc, ◌+ℤ◌, ◌-ℤ◌, ◌*ℤ◌, neg_ℤ, if◌then◌else◌, nat_lt, slice_get, slice_set, int_lt, int_le, Some, None, Option, option_map, option_and_then}
use Rattle.ob0_tree.specs.declared.tree.Relation.{Relation}
use Rattle.ob0_tree.specs.declared.tree.Relation.TheVariants as relation
use Rattle.ob0_tree.specs.declared.tree.Sign.{Sign}
use Rattle.ob0_tree.specs.declared.tree.Sign.TheVariants as sign
use Rattle.ob0_tree.specs.declared.tree.AddOperator.{AddOperator}
use Rattle.ob0_tree.specs.declared.tree.AddOperator.TheVariants as add_operator
use Rattle.ob0_tree.specs.declared.tree.MultiplyOperator.{MultiplyOperator}
use Rattle.ob0_tree.specs.declared.tree.MultiplyOperator.TheVariants as multiply_operator
use Rattle.ob0_language_names.specs.Names.{Name, same_name}
pub use Rattle.ob0_language_values.specs.Division.{checked_division, quotient, remainder}

infixl 20 ◌>>=◌
-- The type of a variable or value. Array and record types have a number, `k`, so that two types are
-- the same exactly if their shapes are equal. `k` counts the words ARRAY and RECORD in the module
-- before the word that constructs the type.
mutual
  -- a type: INTEGER, BOOLEAN, an array with its length and the type of its elements, or a record
  -- with its fields
  pub data Shape : Type 0 where
    integer_shape : Shape
    boolean_shape : Shape
    array_shape : (k : ℕ) → (length : ℕ) → Shape → Shape
    record_shape : (k : ℕ) → FieldShapes → Shape

  -- the fields of a record in text order, each with its name and type
  pub data FieldShapes : Type 0 where
    no_field_shape : FieldShapes
    next_field_shape : Name → Shape → FieldShapes → FieldShapes

-- A value: a number, a truth value, an array's elements, or a record's members. `k` is the number
-- of the record's type: it counts the words ARRAY and RECORD before the RECORD that constructs this
-- type.
mutual
  -- a value, which is a scalar, an array or a record
  pub data Value : Type 0 where
    number : ℤ → Value
    truth : Bool → Value
    elements : Values → Value
    members : (k : ℕ) → Members → Value

  -- the elements of an array, in the order of their indexes
  pub data Values : Type 0 where
    no_value : Values
    next_value : Value → Values → Values

  -- the members of a record in the order of its fields, each with its name
  pub data Members : Type 0 where
    no_member : Members
    next_member : Name → Value → Members → Members

-- The reason why a run ended. Done: the module's body ended. Overflow, Divisor, Index and InputEnd:
-- an operation, an index or a Read failed. CallBound and TurnBound: the run reached the bound on
-- open calls or on loop iterations. Stuck: a step has no meaning.
pub data End : Type 0 where
  Done Overflow Divisor Index InputEnd CallBound TurnBound Stuck : End

-- the outcome of an evaluation: a result, or the reason why the evaluation ends the run (`End`)
pub data Outcome (A : Type 0) : Type 0 where
  succeeds_with : A → Outcome A
  ends_run_with : End → Outcome A

-- applies `next` to the result of an evaluation; if the evaluation ends the run, returns the same end without using
-- `next`
abbrev pub ◌>>=◌ : {A B : Type 0} → Outcome A → (A → Outcome B) → Outcome B
◌>>=◌ (succeeds_with a) next = next a
◌>>=◌ (ends_run_with e) next = ends_run_with e

-- converts an optional result to an outcome: the result itself, or the end Stuck if the argument is
-- None
abbrev pub result_or_stuck : {A : Type 0} → Option A → Outcome A
result_or_stuck None = ends_run_with Stuck
result_or_stuck (Some a) = succeeds_with a

-- returns whether a number fits in 32 bits as a signed integer
abbrev pub fits_in_32_bits : ℤ → Bool
fits_in_32_bits (pos n) = nat_lt n (2 ^ 31)
fits_in_32_bits (negsuc n) = nat_lt n (2 ^ 31)

-- returns the number as a value if it fits in 32 bits, otherwise the end Overflow
abbrev pub checked_number : ℤ → Outcome Value
checked_number n = if fits_in_32_bits n then succeeds_with (number n) else ends_run_with Overflow

-- Returns the outcome of a DIV or MOD, given its result. The outcome is the end Divisor if the
-- result is None, and the end Overflow if the result doesn't fit in 32 bits. Otherwise the outcome
-- is the result.
abbrev pub division_outcome : Option ℤ → Outcome Value
division_outcome None = ends_run_with Divisor
division_outcome (Some n) = checked_number n

-- Returns the result of `+`, `-` or OR. Returns the end Overflow if a number doesn't fit in 32
-- bits. Returns the end Stuck if the operator isn't defined for the operands.
abbrev pub apply_add_operator : AddOperator → Value → Value → Outcome Value
apply_add_operator add_operator.Add (number a) (number b) = checked_number (a +ℤ b)
apply_add_operator add_operator.Subtract (number a) (number b) = checked_number (a -ℤ b)
apply_add_operator add_operator.Or (truth a) (truth b) = succeeds_with (truth (a || b))
apply_add_operator _ _ _ = ends_run_with Stuck

-- Returns the result of `*`, DIV, MOD or `&`. Returns the end Overflow if a number doesn't fit in
-- 32 bits, and Divisor if the divisor of DIV or MOD is below 1. Returns Stuck if the operator isn't
-- defined for the operands.
abbrev pub apply_multiply_operator : MultiplyOperator → Value → Value → Outcome Value
apply_multiply_operator multiply_operator.Multiply (number a) (number b) = checked_number (a *ℤ b)
apply_multiply_operator multiply_operator.Divide (number a) (number b) = division_outcome (checked_division quotient a b)
apply_multiply_operator multiply_operator.Modulo (number a) (number b) = division_outcome (checked_division remainder a b)
apply_multiply_operator multiply_operator.And (truth a) (truth b) = succeeds_with (truth (a && b))
apply_multiply_operator _ _ _ = ends_run_with Stuck

-- returns whether the operator is OR and the left operand is TRUE; the right operand isn't evaluated then
abbrev pub add_operator_short_circuits : AddOperator → Value → Bool
add_operator_short_circuits add_operator.Or (truth true) = true
add_operator_short_circuits _ _ = false

-- returns whether the operator is `&` and the left operand is FALSE; the right operand isn't evaluated then
abbrev pub multiply_operator_short_circuits : MultiplyOperator → Value → Bool
multiply_operator_short_circuits multiply_operator.And (truth false) = true
multiply_operator_short_circuits _ _ = false

-- returns whether two truth values are equal
abbrev pub same_truth : Bool → Bool → Bool
same_truth true b = b
same_truth false b = not b

-- returns whether a relation holds between the numbers `a` and `b`, in this order
abbrev pub compare_numbers : Relation → ℤ → ℤ → Bool
compare_numbers relation.Equal a b = int_le a b && int_le b a
compare_numbers relation.NotEqual a b = not (int_le a b && int_le b a)
compare_numbers relation.Less a b = int_lt a b
compare_numbers relation.LessEqual a b = int_le a b
compare_numbers relation.Greater a b = int_lt b a
compare_numbers relation.GreaterEqual a b = int_le b a

-- returns the truth value of a relation between two numbers, or of `=` or `#` between two truth
-- values; the end Stuck for other operands
abbrev pub apply_relation : Relation → Value → Value → Outcome Value
apply_relation r (number a) (number b) = succeeds_with (truth (compare_numbers r a b))
apply_relation relation.Equal (truth a) (truth b) = succeeds_with (truth (same_truth a b))
apply_relation relation.NotEqual (truth a) (truth b) = succeeds_with (truth (not (same_truth a b)))
apply_relation _ _ _ = ends_run_with Stuck

-- Returns the value with an optional sign applied. If there is a sign, returns the end Overflow if
-- the result doesn't fit in 32 bits, and the end Stuck if the value isn't a number.
abbrev pub apply_sign : Option Sign → Value → Outcome Value
apply_sign None v = succeeds_with v
apply_sign (Some sign.Plus) (number a) = checked_number a
apply_sign (Some sign.Minus) (number a) = checked_number (neg_ℤ a)
apply_sign _ _ = ends_run_with Stuck

-- returns the result of `~`; the end Stuck if the value isn't a truth value
abbrev pub apply_not : Value → Outcome Value
apply_not (truth b) = succeeds_with (truth (not b))
apply_not _ = ends_run_with Stuck

-- a step of a path into a value: to an element of an array, or to a field of a record
pub data PathStep : Type 0 where
  at_index : ℕ → PathStep
  at_field : Name → PathStep

-- The place that a designator denotes. `variable` is the index of a variable in the store, counted
-- from 0. `path` leads from the variable's value to an element or member within it. An empty path
-- leads to the whole value.
pub record Place : Type 0 where
  pub variable : ℕ
  pub path : List PathStep

-- the store of a run: the value of each variable, at the variable's index
abbrev pub Store : Type 0
Store = List Value

-- returns the element at index `n`, counted from 0; None if there is no such element
abbrev pub nth_value : Values → ℕ → Option Value
nth_value no_value n = None
nth_value (next_value v rest) zero = Some v
nth_value (next_value v rest) (suc n) = nth_value rest n

-- replaces the element at index `n` of an array by `new`; returns the elements unchanged if there
-- is no such element
abbrev pub with_nth_value : Values → ℕ → Value → Values
with_nth_value no_value n new = no_value
with_nth_value (next_value v rest) zero new = next_value new rest
with_nth_value (next_value v rest) (suc n) new = next_value v (with_nth_value rest n new)

-- returns the value of the first member with the name `x`; None if there is no such member
abbrev pub named_member : Members → Name → Option Value
named_member no_member x = None
named_member (next_member y v rest) x = if same_name x y then Some v else named_member rest x

-- replaces the value of the first member with the name `x` of a record by `new`; returns the
-- members unchanged if there is no such member
abbrev pub with_named_member : Members → Name → Value → Members
with_named_member no_member x new = no_member
with_named_member (next_member y v rest) x new =
    if same_name x y then next_member y new rest else next_member y v (with_named_member rest x new)

-- returns the element or member that one step of a path selects from a value; None if the step
-- selects nothing
abbrev pub value_at_step : Value → PathStep → Option Value
value_at_step (elements vs) (at_index i) = nth_value vs i
value_at_step (members k ms) (at_field x) = named_member ms x
value_at_step _ _ = None

-- replaces the element or member that one step selects in a value by `new`; returns the value
-- unchanged if the step selects nothing
abbrev pub with_value_at_step : Value → PathStep → Value → Value
with_value_at_step (elements vs) (at_index i) new = elements (with_nth_value vs i new)
with_value_at_step (members k ms) (at_field x) new = members k (with_named_member ms x new)
with_value_at_step v _ new = v

-- returns the part of a value to which a path leads; None if a step selects nothing
abbrev pub value_at_path : List PathStep → Value → Option Value
value_at_path [] v = Some v
value_at_path (s ∷ path) v = option_and_then (value_at_path path) (value_at_step v s)

-- returns the value `v` with `new` in place of the part to which a path leads; None if a step
-- selects nothing
abbrev pub with_value_at_path : List PathStep → Value → Value → Option Value
with_value_at_path [] new v = Some new
with_value_at_path (s ∷ path) new v =
    option_and_then (λ old. option_map (with_value_at_step v s) (with_value_at_path path new old)) (value_at_step v s)

-- returns the value at a place; None if there is no such place
abbrev pub read_place : Store → Place → Option Value
read_place store p = option_and_then (value_at_path p.path) (slice_get store p.variable)

-- returns the store in which `new` replaces the value at a place; None if there is no such place
abbrev pub write_place : Store → Place → Value → Option Store
write_place store p new =
    option_and_then (λ old. option_map (slice_set store p.variable) (with_value_at_path p.path new old))
    (slice_get store p.variable)

-- returns the number of elements of an array
abbrev pub value_count : Values → ℕ
value_count no_value = 0
value_count (next_value v rest) = suc (value_count rest)

-- returns `n` elements that all have the same value
abbrev pub copies : ℕ → Value → Values
copies zero v = no_value
copies (suc n) v = next_value v (copies n v)

-- Returns the initial value of a variable: each number in it is 0, and each truth value is FALSE.
abbrev mutual
  -- returns the initial value of a variable of this type
  pub initial_value : Shape → Value
  initial_value integer_shape = number (pos 0)
  initial_value boolean_shape = truth false
  initial_value (array_shape k n element) = elements (copies n (initial_value element))
  initial_value (record_shape k fs) = members k (initial_members fs)

  -- returns the initial members of a record variable with these fields
  pub initial_members : FieldShapes → Members
  initial_members no_field_shape = no_member
  initial_members (next_field_shape x s rest) = next_member x (initial_value s) (initial_members rest)
