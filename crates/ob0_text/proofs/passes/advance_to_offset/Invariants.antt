use Rattle.std.proofs.Common.{◌-◌, ◌≤◌}
use Rattle.ob0_text.specs.Units.{width_of}
use Rattle.ob0_text.specs.PassInvariants.{PositionsCanBeCountedFromPlace}
use Rattle.ob0_text.proofs.passes.advance_to_offset.Given as goal

abbrev pub invariant-loop-next : goal.invariant-loop-next
invariant-loop-next l = record {
  place : PositionsCanBeCountedFromPlace (width_of l.fn.unit) l.fn.text l.place;
  within : l.place.offset ≤ l.fn.offset;
}

abbrev pub decreases-loop-next : goal.decreases-loop-next
decreases-loop-next l = l.fn.offset - l.place.offset
