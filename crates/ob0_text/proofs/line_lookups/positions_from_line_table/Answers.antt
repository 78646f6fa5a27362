use Rattle.std.proofs.Common.{map, ap, ◌∙◌}
use Rattle.std.proofs.lemmas.List.{take_all}
use Rattle.std.specs.Str.{chars}
use Rattle.ob0_text.specs.Texts.{position_of}
use Rattle.ob0_text.specs.Units.{width_of}
use Rattle.ob0_text.proofs.Collecting.{one_more}
use Rattle.ob0_text.proofs.line_lookups.positions_from_line_table.Goals as goal

pub advance_to_offset-place-requires-clause-place : goal.advance_to_offset-place-requires-clause-place
advance_to_offset-place-requires-clause-place c =
    c.pass_start_for_offset-from.ensures.place c.args.unit c.loop-offset.invariant.place

pub loop-offset-preserved : goal.loop-offset-preserved
loop-offset-preserved c = record {
  place = c.advance_to_offset-place.ensures.place;
  done = c.in_ok-push.ensures.items
      ∙ one_more (position_of (width_of c.args.unit) (chars c.args.text.now)) c.args.offsets.now c.loop-offset.offset-index 0 c.loop-offset.positions.items c.position_of_place.result
      c.loop-offset-test.true c.loop-offset.invariant.done (c.position_of_place.ensures ∙ c.advance_to_offset-place.ensures.position);
}

pub returns : goal.returns
returns c =
    c.loop-offset.invariant.done
    ∙ ap (map (position_of (width_of c.args.unit) (chars c.args.text.now))) (take_all c.loop-offset.offset-index c.args.offsets.now c.loop-offset-test.false)
