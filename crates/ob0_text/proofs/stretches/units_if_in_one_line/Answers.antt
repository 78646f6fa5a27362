use Rattle.std.proofs.Common.{ap, ◌∙◌, sym, subst, sum_by}
use Rattle.std.specs.List.{All}
use Rattle.std.specs.Str.{chars}
use Rattle.ob0_text.specs.Texts.{utf16_width}
use Rattle.ob0_text.specs.Stretches.{IsNotLineBreak, utf16_units_at_byte, AreInOneLineWithUnits}
use Rattle.ob0_text.proofs.StretchBytes.{counted_in_utf16, counted_in_bytes}
use Rattle.ob0_text.proofs.stretches.units_if_in_one_line.Goals as goal

pub returns-in-Utf16 : goal.returns-in-Utf16
returns-in-Utf16 c =
    let no_line_break : All IsNotLineBreak c.args.piece.now = subst (All IsNotLineBreak) c.as_bytes.ensures.value (c.has_line_break.ensures.no c.if-has_line_break.false) in
    let counted = c.utf16_units.ensures ∙ ap (sum_by utf16_units_at_byte) c.as_bytes-in-Utf16.ensures.value in
    rw c.in-Utf16.is (subst (AreInOneLineWithUnits utf16_width (chars c.args.piece.now)) (sym counted) (counted_in_utf16 c.args.piece.now c.utf8.piece no_line_break))

pub returns-in-Utf8 : goal.returns-in-Utf8
returns-in-Utf8 c =
    let no_line_break : All IsNotLineBreak c.args.piece.now = subst (All IsNotLineBreak) c.as_bytes.ensures.value (c.has_line_break.ensures.no c.if-has_line_break.false) in
    rw c.in-Utf8.is (counted_in_bytes c.args.piece.now c.utf8.piece no_line_break)
