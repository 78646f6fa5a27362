-- Defines the code (`ExpressionCode`) of constants, of the value at a place, and of operations.
-- Also defines the places of fields and elements (`PlaceWithShape`).
-- Rule: none; used in contracts of lowering.
use Rattle.std.specs.Prelude.{◌≡◌, ℕ, ◌*◌, ◌%◌, ◌^◌, pos, Some, None, Option, option_map, if◌then◌else◌, nat_lt}
use Rattle.ob0_tree.specs.declared.tree.Relation.{Relation}
use Rattle.ob0_tree.specs.declared.tree.Relation.TheVariants as relation
use Rattle.ob0_tree.specs.declared.tree.Sign.{Sign}
use Rattle.ob0_tree.specs.declared.tree.Sign.TheVariants as sign
use Rattle.ob0_tree.specs.declared.tree.AddOperator.{AddOperator}
use Rattle.ob0_tree.specs.declared.tree.AddOperator.TheVariants as add_operator
use Rattle.ob0_tree.specs.declared.tree.MultiplyOperator.{MultiplyOperator}
use Rattle.ob0_tree.specs.declared.tree.MultiplyOperator.TheVariants as multiply_operator
use Rattle.ob0_language_names.specs.Names.{Label, Name}
use Rattle.ob0_language_types.specs.Typing.{field_type}
use Rattle.ob0_language_types.specs.WellTyped.{TypeMeanings}
use Rattle.ob0_language_values.specs.Values.{Shape, Value, array_shape, at_field, boolean_shape, elements, integer_shape, members, number, record_shape, truth}
use Rattle.ob0_run_machine.specs.LoweredSyntax as lowered
use Rattle.ob0_run_cells.specs.Cells.{shape_cell_count, step_offset}
use Rattle.ob0_run_cells.specs.LoweredExpressions.{OutcomeByMoment, NumberHasOutcome, Slot, TruthHasOutcome, PlaceHoldsValue, place_at_offset, comparator_of_relation}

-- The code of an expression: a number, a truth, or the cells of an array or a record. `no_code`
-- stands for an expression without code, which doesn't occur in a well-typed module.
pub data ExpressionCode : Type 0 where
  a_number : lowered.Number → ExpressionCode
  a_truth : lowered.Truth → ExpressionCode
  a_block : lowered.Place → (cells : ℕ) → ExpressionCode
  no_code : ExpressionCode

-- States that code is correct for the evaluation `value`, whose values have the given type. The
-- code of a number or a truth has the same outcome as `value`. The code of an array or a record has
-- all the cells of the type, at a place that holds the value. This is never true if the code is for
-- a value of another type, or is `no_code`.
abbrev pub CodeHasOutcome : TypeMeanings Label → (Label → Slot) → ExpressionCode → Shape
    → OutcomeByMoment Label Value
    → Type 0
CodeHasOutcome checked slots (a_number n) integer_shape value = NumberHasOutcome checked slots n value
CodeHasOutcome checked slots (a_truth t) boolean_shape value = TruthHasOutcome checked slots t value
CodeHasOutcome checked slots (a_block q n) (array_shape k m s) value =
    (n ≡ shape_cell_count (array_shape k m s)) × PlaceHoldsValue checked slots q (array_shape k m s) value
CodeHasOutcome checked slots (a_block q n) (record_shape k fs) value =
    (n ≡ shape_cell_count (record_shape k fs)) × PlaceHoldsValue checked slots q (record_shape k fs) value
CodeHasOutcome checked slots _ _ value = ⊥

-- A place of lowered code, and the type of the value there.
pub record PlaceWithShape : Type 0 where
  pub place : lowered.Place
  pub shape : Shape

-- returns the code of the value at a place, which depends on the value's type
abbrev pub code_of_value_at_place : lowered.Place → Shape → ExpressionCode
code_of_value_at_place q integer_shape = a_number (lowered.cell q)
code_of_value_at_place q boolean_shape = a_truth (lowered.flag q)
code_of_value_at_place q (array_shape k n s) = a_block q (shape_cell_count (array_shape k n s))
code_of_value_at_place q (record_shape k fs) = a_block q (shape_cell_count (record_shape k fs))

-- returns the code of the value at a place, or `no_code` for None
abbrev pub code_of_value_at_optional_place : Option PlaceWithShape → ExpressionCode
code_of_value_at_optional_place None = no_code
code_of_value_at_optional_place (Some f) = code_of_value_at_place f.place f.shape

-- returns the code of a constant's value, or `no_code` for an array or a record
abbrev pub constant_code : Value → ExpressionCode
constant_code (number n) = a_number (lowered.literal n)
constant_code (truth b) = a_truth (lowered.constant b)
constant_code (elements vs) = no_code
constant_code (members k ms) = no_code

-- Returns the code of a designator. For a constant, this is the code of its value. For any other
-- designator (None), it is the code of the value at the place `found`.
abbrev pub designator_code : Option Value → Option PlaceWithShape → ExpressionCode
designator_code (Some v) found = constant_code v
designator_code None found = code_of_value_at_optional_place found

-- returns the code of an operation on two numbers, or `no_code` if an operand isn't a number
abbrev pub number_operation_code : lowered.Operator → ExpressionCode → ExpressionCode → ExpressionCode
number_operation_code o (a_number m) (a_number n) = a_number (lowered.operation o m n)
number_operation_code _ _ _ = no_code

-- returns the code of an operation on two truths, or `no_code` if an operand isn't a truth
abbrev pub truth_operation_code : (lowered.Truth → lowered.Truth → lowered.Truth)
    → ExpressionCode
    → ExpressionCode
    → ExpressionCode
truth_operation_code operation (a_truth t) (a_truth u) = a_truth (operation t u)
truth_operation_code _ _ _ = no_code

-- returns the code of a sum, a difference or an OR, or `no_code` if an operand has the wrong type
abbrev pub addition_code : AddOperator → ExpressionCode → ExpressionCode → ExpressionCode
addition_code add_operator.Add = number_operation_code lowered.sum
addition_code add_operator.Subtract = number_operation_code lowered.difference
addition_code add_operator.Or = truth_operation_code lowered.either

-- returns the code of a product, a quotient, a remainder or an `&`, or `no_code` if an operand has
-- the wrong type
abbrev pub multiplication_code : MultiplyOperator → ExpressionCode → ExpressionCode → ExpressionCode
multiplication_code multiply_operator.Multiply = number_operation_code lowered.product
multiplication_code multiply_operator.Divide = number_operation_code lowered.quotient
multiplication_code multiply_operator.Modulo = number_operation_code lowered.remainder
multiplication_code multiply_operator.And = truth_operation_code lowered.both

-- Returns the code of a term with its sign, or the code of the term if there is no sign. Returns
-- `no_code` if a term with a sign isn't a number. `+x` is lowered to `x + 0`, which is in range
-- exactly if `x` is.
abbrev pub signed_term_code : Option Sign → ExpressionCode → ExpressionCode
signed_term_code None c = c
signed_term_code (Some sign.Plus) (a_number n) =
    a_number (lowered.operation lowered.sum n (lowered.literal (pos 0)))
signed_term_code (Some sign.Minus) (a_number n) = a_number (lowered.negative n)
signed_term_code _ _ = no_code

-- returns the code of a negation `~`, or `no_code` if the operand isn't a truth
abbrev pub negation_code : ExpressionCode → ExpressionCode
negation_code (a_truth t) = a_truth (lowered.negation t)
negation_code _ = no_code

-- Returns the code of a relation between two numbers, or of `=` or `#` between two truths. Returns
-- `no_code` for any other operands or relation.
abbrev pub relation_code : Relation → ExpressionCode → ExpressionCode → ExpressionCode
relation_code r (a_number m) (a_number n) = a_truth (lowered.related (comparator_of_relation r) m n)
relation_code relation.Equal (a_truth t) (a_truth u) = a_truth (lowered.same t u)
relation_code relation.NotEqual (a_truth t) (a_truth u) = a_truth (lowered.different t u)
relation_code _ _ _ = no_code

-- Returns the offset of an array's element, in cells from the start of the array, if the index is a
-- literal below the array's length. The offset wraps at 64 bits. Returns None for any other index.
abbrev pub known_element_offset : lowered.Number → (length stride : ℕ) → Option ℕ
known_element_offset (lowered.literal (pos i)) n s =
    if nat_lt i n then Some ((i * s) % 2 ^ 64) else None
known_element_offset _ n s = None

-- Returns the place of an array's element. If the offset of the element is known, this is the place
-- at this offset in the array. If it isn't known (None), this is the element at an index that is
-- evaluated during the run.
abbrev pub element_place_at_optional_offset : Option ℕ → lowered.Place → lowered.Number → (length stride : ℕ)
    → lowered.Place
element_place_at_optional_offset None q i n s = lowered.element q i n s 0
element_place_at_optional_offset (Some k) q i n s = place_at_offset q k

-- returns the place of an element, given the place of the array, the index, the array's length, and
-- the number of cells of an element
abbrev pub place_of_element : lowered.Place → lowered.Number → (length stride : ℕ) → lowered.Place
place_of_element q i n s = element_place_at_optional_offset (known_element_offset i n s) q i n s

-- Returns the place and the type of a field of the value at a place. Returns None if the value has
-- no such field.
abbrev pub record_field_place : Name → PlaceWithShape → Option PlaceWithShape
record_field_place x f =
    option_map
    (λ t. record { place = place_at_offset f.place (step_offset f.shape (at_field x)); shape = t })
    (field_type f.shape x)

-- Returns the place and the type of an element of the array at a place. Returns None if the index
-- isn't a number, or the value at the place isn't an array.
abbrev pub element_place_with_shape : ExpressionCode → lowered.Place → Shape → Option PlaceWithShape
element_place_with_shape (a_number i) q (array_shape k n s) =
    Some (record { place = place_of_element q i n (shape_cell_count s); shape = s })
element_place_with_shape _ _ _ = None

-- Returns the place and the type of an element of the array at a place that was found. Returns None
-- if no place was found, the index isn't a number, or the value at the place isn't an array.
abbrev pub element_of_optional_place : ExpressionCode → Option PlaceWithShape → Option PlaceWithShape
element_of_optional_place c None = None
element_of_optional_place c (Some f) = element_place_with_shape c f.place f.shape
