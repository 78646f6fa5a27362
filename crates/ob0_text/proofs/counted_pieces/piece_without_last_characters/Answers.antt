use Rattle.std.proofs.Common.{refl, subst, arith}
use Rattle.std.specs.Str.{IsUtf8, chars}
use Rattle.ob0_text.specs.Units.{width_of}
use Rattle.ob0_text.specs.Stretches.{AreInOneLineWithUnits}
use Rattle.ob0_text.proofs.CountedPieces.{cut, piece_cut}
use Rattle.ob0_text.proofs.counted_pieces.piece_without_last_characters.Goals as goal

pub returns-clause-is : goal.returns-clause-is
returns-clause-is c =
    let width = width_of c.args.unit in
    let text = c.args.text.now in
    let end = c.floor_char_boundary-end.result in
    let whole : IsUtf8 (cut text c.args.start end) = subst IsUtf8 c.range-left.ensures.value c.range-left.utf8 in
    let gone : AreInOneLineWithUnits width (chars (cut text end c.args.piece.end)) c.in_ok-last.last = subst (λ t. AreInOneLineWithUnits width (chars t) c.in_ok-last.last) c.range.ensures.value c.in_ok-last.ensures in
    piece_cut width text c.args.start c.args.piece _ c.in_ok-last.last c.requires (omega (arith, c.if-end-start.false)) (omega (arith, c.if-piece-end.false)) whole gone refl
