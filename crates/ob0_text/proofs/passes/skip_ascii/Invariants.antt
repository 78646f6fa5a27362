use Rattle.std.proofs.Common.{◌-◌, ◌≤◌, drop}
use Rattle.ob0_text.specs.Units.{width_of}
use Rattle.ob0_text.specs.PassInvariants.{PositionsCanBeCountedInRest}
use Rattle.ob0_text.proofs.passes.skip_ascii.Given as goal

abbrev pub invariant-loop-reached : goal.invariant-loop-reached
invariant-loop-reached l = record {
  counted : PositionsCanBeCountedInRest (width_of l.fn.unit) l.fn.text (drop l.reached l.fn.text) l.reached l.line l.character;
  within : l.reached ≤ l.fn.offset;
  onward : l.fn.from.offset ≤ l.reached;
}

abbrev pub decreases-loop-reached : goal.decreases-loop-reached
decreases-loop-reached l = l.end - l.reached
