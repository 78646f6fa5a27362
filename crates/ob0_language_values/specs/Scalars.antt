-- Converts the code's scalars, faults and results of operators to the values and outcomes of the
-- definitions.
-- Rule: none; used in contracts of code that computes with scalars.
use Rattle.std.specs.Prelude.{ℤ, Some, None, Ok, Err, Option, Result}
use Rattle.ob0_language_values.specs.declared.scalar.OperatorFault.{OperatorFault}
use Rattle.ob0_language_values.specs.declared.scalar.OperatorFault.TheVariants as fault
use Rattle.ob0_language_values.specs.declared.scalar.Scalar.{Scalar}
use Rattle.ob0_language_values.specs.declared.scalar.Scalar.TheVariants as scalar
use Rattle.ob0_language_values.specs.Values.{Divisor, End, Outcome, Overflow, Stuck, Value, ends_run_with, succeeds_with, number, truth}

-- converts a scalar of the code to a value of the definitions
abbrev pub scalar_value : Scalar → Value
scalar_value (scalar.Number n) = number n
scalar_value (scalar.Truth b) = truth b

-- returns the reason why a run ends (`End`) if an operator has this fault
abbrev pub end_for_fault : OperatorFault → End
end_for_fault fault.Overflow = Overflow
end_for_fault fault.Divisor = Divisor
end_for_fault fault.Operand = Stuck

-- converts the code's result of an operator to an outcome of the definitions: the value, or the end
-- that the fault causes
abbrev pub scalar_outcome : Result Scalar OperatorFault → Outcome Value
scalar_outcome (Ok s) = succeeds_with (scalar_value s)
scalar_outcome (Err f) = ends_run_with (end_for_fault f)

-- Returns the outcome of an operation on 32-bit numbers, given its result. The outcome is the
-- number, or the end Overflow if the result is None, which means that it doesn't fit in 32 bits.
abbrev pub number_outcome : Option ℤ → Outcome Value
number_outcome None = ends_run_with Overflow
number_outcome (Some n) = succeeds_with (number n)
