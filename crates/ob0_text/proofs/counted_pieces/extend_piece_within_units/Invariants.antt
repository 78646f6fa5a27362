use Rattle.std.proofs.Common.{◌-◌, ◌≤◌, length}
use Rattle.ob0_text.specs.Units.{width_of}
use Rattle.ob0_text.specs.Stretches.{IsPieceOfLine}
use Rattle.ob0_text.proofs.counted_pieces.extend_piece_within_units.Given as goal

abbrev pub invariant-loop-next : goal.invariant-loop-next
invariant-loop-next l = record {
  is : IsPieceOfLine (width_of l.fn.unit) l.text l.start l.counted;
  few : l.counted.units ≤ l.units;
}

abbrev pub decreases-loop-next : goal.decreases-loop-next
decreases-loop-next l = length l.text - l.counted.end
