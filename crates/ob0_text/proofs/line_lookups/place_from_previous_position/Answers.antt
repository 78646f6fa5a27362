use Rattle.ob0_text.specs.Units.{width_of}
use Rattle.ob0_text.proofs.PlaceSteps.{sought_later}
use Rattle.ob0_text.proofs.line_lookups.place_from_previous_position.Goals as goal

pub advance_to_position-requires : goal.advance_to_position-requires
advance_to_position-requires c =
    record { place = sought_later (width_of c.args.unit) c.args.text.now c.args.last _ _ _ _ c.requires.last c.args.position (c.is_at_or_before.ensures.0 c.if-is_at_or_before.true) }
