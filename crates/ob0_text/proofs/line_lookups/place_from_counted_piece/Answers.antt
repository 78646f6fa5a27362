use Rattle.std.proofs.Common.{◌≡◌, ◌+◌, ◌<◌, ◌≤◌, drop, length, sym, subst, arith}
use Rattle.std.specs.Str.{chars}
use Rattle.ob0_text.specs.Units.{width_of}
use Rattle.ob0_text.specs.PassInvariants.{OffsetsCanBeFoundInRest}
use Rattle.ob0_text.specs.Stretches.{IsPieceOfLine}
use Rattle.ob0_text.proofs.LinePlaces.{some_start, seeks}
use Rattle.ob0_text.proofs.StretchSteps.{sought_past_stretch}
use Rattle.ob0_text.proofs.line_lookups.place_from_counted_piece.Goals as goal

pub line_start_place-start-requires : goal.line_start_place-start-requires
line_start_place-start-requires c =
    subst (λ t. 0 < length t) (sym c.requires.lines.starts) (some_start (chars c.args.text.now))

pub advance_to_position-requires : goal.advance_to_position-requires
advance_to_position-requires c =
    let width = width_of c.args.unit in
    let text = c.args.text.now in
    let position = c.args.position in
    let counted = c.args.counted.end_and_units in
    let start = c.line_start_place-start in
    let sought = seeks width text c.args.table.now.starts position start.result c.utf8.text c.requires.lines.starts start.ensures.offset start.ensures.line start.ensures.character in
    let here : c.args.counted.start ≡ start.result.offset = omega (arith, c.if-start-counted.false) in
    let line : start.result.line ≡ position.line = omega (arith, c.if-start-position.false) in
    let room : start.result.character + counted.units ≤ position.character = omega (arith, c.if-counted-position.false, start.ensures.character) in
    let passed = sought_past_stretch width text position start.result counted sought (subst (λ n. IsPieceOfLine width text n counted) here c.requires.counted) line room in
    let units : start.result.character + counted.units ≡ counted.units = omega (arith, start.ensures.character) in
    record { place = subst (λ n. OffsetsCanBeFoundInRest width text position (drop counted.end text) counted.end start.result.line n) units passed }
