use Rattle.std.proofs.Common.{◌-◌, length}
use Rattle.ob0_text.specs.Units.{width_of}
use Rattle.ob0_text.specs.PassInvariants.{OffsetsCanBeFoundFromPlace}
use Rattle.ob0_text.proofs.passes.skip_stretches_to_position.Given as goal

abbrev pub invariant-loop-stretch : goal.invariant-loop-stretch
invariant-loop-stretch l = OffsetsCanBeFoundFromPlace (width_of l.fn.unit) l.text l.position l.place

abbrev pub decreases-loop-stretch : goal.decreases-loop-stretch
decreases-loop-stretch l = length l.text - l.place.offset
