use Rattle.std.proofs.Common.{◌≡◌, ◌≤◌, ◌*◌, sum_by, take}
use Rattle.ob0_text.specs.Stretches.{utf16_units_at_byte}
use Rattle.ob0_text.proofs.stretches.utf16_units.Given as goal

abbrev pub invariant-loop-byte : goal.invariant-loop-byte
invariant-loop-byte l = record {
  counted : l.units ≡ sum_by utf16_units_at_byte (take l.byte-index l.bytes);
  few : l.units ≤ 2 * l.byte-index;
}
