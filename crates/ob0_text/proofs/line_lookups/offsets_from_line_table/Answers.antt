use Rattle.std.proofs.Common.{map, ap, ◌∙◌}
use Rattle.std.proofs.lemmas.List.{take_all}
use Rattle.std.specs.Str.{chars}
use Rattle.ob0_text.specs.Texts.{offset_of}
use Rattle.ob0_text.specs.Units.{width_of}
use Rattle.ob0_text.proofs.Collecting.{one_more}
use Rattle.ob0_text.proofs.line_lookups.offsets_from_line_table.Goals as goal

pub loop-position-preserved : goal.loop-position-preserved
loop-position-preserved c = record {
  place = c.place_from_previous_position-place.ensures.place;
  done = c.in_ok-push.ensures.items
      ∙ one_more (offset_of (width_of c.args.unit) (chars c.args.text.now)) c.args.positions.now c.loop-position.position-index (record { line = 0; character = 0 }) c.loop-position.offsets.items c.place_from_previous_position-place.result.offset
      c.loop-position-test.true c.loop-position.invariant.done c.place_from_previous_position-place.ensures.offset;
}

pub returns : goal.returns
returns c =
    c.loop-position.invariant.done
    ∙ ap (map (offset_of (width_of c.args.unit) (chars c.args.text.now))) (take_all c.loop-position.position-index c.args.positions.now c.loop-position-test.false)
