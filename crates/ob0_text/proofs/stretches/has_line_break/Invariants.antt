use Rattle.std.proofs.Common.{◌≡◌, ◌≤◌, take}
use Rattle.std.specs.List.{All}
use Rattle.ob0_text.specs.Stretches.{IsNotLineBreak}
use Rattle.ob0_text.proofs.stretches.has_line_break.Given as goal

abbrev pub invariant-loop-byte : goal.invariant-loop-byte
invariant-loop-byte l = record {
  none : l.breaks ≡ 0 → All IsNotLineBreak (take l.byte-index l.bytes);
  few : l.breaks ≤ l.byte-index;
}
