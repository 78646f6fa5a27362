use Rattle.std.proofs.Common.{◌≡◌, ◌≤◌, take}
use Rattle.ob0_scan.specs.LexemeClasses.{decimal_value}
use Rattle.ob0_scan.proofs.leading_lexemes.integer_value.Given as goal

abbrev pub invariant-loop-digit : goal.invariant-loop-digit
invariant-loop-digit l = record {
  value_of_digits : l.value ≡ decimal_value (take l.digit-index l.digits);
  fits : l.value ≤ 2147483647;
}
