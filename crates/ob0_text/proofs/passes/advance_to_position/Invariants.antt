use Rattle.std.specs.Str.Iter.{chars_rest}
use Rattle.ob0_text.specs.Units.{width_of}
use Rattle.ob0_text.specs.PassInvariants.{OffsetsCanBeFoundInRest}
use Rattle.ob0_text.proofs.passes.advance_to_position.Given as goal

abbrev pub invariant-loop-c : goal.invariant-loop-c
invariant-loop-c l = record {
  goes_on : (goal.iterator-loop-c).can_next l.chars;
  ends : (goal.iterator-loop-c).is_finite l.chars;
  sought : OffsetsCanBeFoundInRest (width_of l.fn.unit) l.text l.fn.position (chars_rest l.chars) l.reached l.line l.character;
}
