use Rattle.std.proofs.Common.{arith, ◌+◌}
use Rattle.ob0_scan.proofs.Numbers.{value_more, value_grows}
use Rattle.ob0_scan.proofs.leading_lexemes.integer_value.Goals as goal

-- If the digits so far have too large a value, all the digits do.
pub returns-then-value-gt-MAX_INTEGER : goal.returns-then-value-gt-MAX_INTEGER
returns-then-value-gt-MAX_INTEGER c =
    let ds = c.args.digits.now in
    let i = c.loop-digit.digit-index in
    λ fits. omega (arith, value_grows ds (i + 1), value_more ds i (omega arith), c.loop-digit.invariant.value_of_digits, c.from.ensures)
