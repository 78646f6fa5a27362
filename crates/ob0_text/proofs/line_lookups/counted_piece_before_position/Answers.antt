use Rattle.std.proofs.Common.{◌<◌, length, sym, subst}
use Rattle.std.specs.Str.{chars}
use Rattle.ob0_text.proofs.LinePlaces.{some_start}
use Rattle.ob0_text.proofs.line_lookups.counted_piece_before_position.Goals as goal

pub line_start_place-start-requires : goal.line_start_place-start-requires
line_start_place-start-requires c =
    subst (λ t. 0 < length t) (sym c.requires.lines.starts) (some_start (chars c.args.text.now))
