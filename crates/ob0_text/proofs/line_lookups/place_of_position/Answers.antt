use Rattle.std.proofs.Common.{◌<◌, length, sym, subst}
use Rattle.std.specs.Str.{chars}
use Rattle.ob0_text.specs.Units.{width_of}
use Rattle.ob0_text.proofs.LinePlaces.{some_start, seeks}
use Rattle.ob0_text.proofs.line_lookups.place_of_position.Goals as goal

pub line_start_place-start-requires : goal.line_start_place-start-requires
line_start_place-start-requires c =
    subst (λ t. 0 < length t) (sym c.requires.starts) (some_start (chars c.args.text.now))

pub advance_to_position-requires : goal.advance_to_position-requires
advance_to_position-requires c =
    let start = c.line_start_place-start in
    record { place = seeks (width_of c.args.unit) c.args.text.now c.args.table.now.starts c.args.position start.result c.utf8.text c.requires.starts start.ensures.offset start.ensures.line start.ensures.character }
