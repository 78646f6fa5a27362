use Rattle.ob0_text.specs.Units.{width_of}
use Rattle.ob0_text.proofs.PlaceSteps.{sought_later}
use Rattle.ob0_text.proofs.line_lookups.range_offsets.Goals as goal

pub advance_to_position-end-requires : goal.advance_to_position-end-requires
advance_to_position-end-requires c =
    record { place = sought_later (width_of c.args.unit) c.args.text.now c.args.range.start _ _ _ _ c.place_from_counted_piece-start.ensures.place c.args.range.end (c.is_at_or_before.ensures.0 c.if-is_at_or_before.true) }
