use Rattle.std.proofs.Common.{◌≡◌, ◌-◌, ◌++◌, take, drop, length, sym, ap, ◌∙◌, subst, arith, Some}
use Rattle.std.specs.Prelude.{encode_utf8_all}
use Rattle.std.specs.Option.{option_map}
use Rattle.std.specs.Str.{IsCharBoundary}
use Rattle.std.proofs.lemmas.Str.{chars_from_encodes}
use Rattle.std.proofs.lemmas.List.{take_at, drop_at}
use Rattle.ob0_text.specs.LineStarts.{line_with_ending}
use Rattle.ob0_text.proofs.LineTexts.{no_line, found_line, start_border, end_border}
use Rattle.ob0_text.proofs.line_lookups.line_from_line_table.Goals as goal

pub returns-then-k-count : goal.returns-then-k-count
returns-then-k-count c =
    ap (option_map line_with_ending) (sym (no_line c.args.text.now c.args.table.now.starts c.utf8.text c.requires.starts c.args.k (omega (arith, c.count.ensures, c.if-k-count.true))))

pub range-requires-clause-start_le_end : goal.range-requires-clause-start_le_end
range-requires-clause-start_le_end c =
    let found = found_line c.args.text.now c.args.table.now.starts c.utf8.text c.requires.starts c.args.k c.line_end_offset-end.result (omega (arith, c.count.ensures, c.if-k-count.false)) c.line_end_offset-end.ensures.next c.line_end_offset-end.ensures.last in
    omega (arith, found.there)

pub range-requires-clause-start_boundary : goal.range-requires-clause-start_boundary
range-requires-clause-start_boundary c =
    λ _. subst (IsCharBoundary c.args.text.now) (sym c.line_start.ensures)
    (start_border c.args.text.now c.args.table.now.starts c.utf8.text c.requires.starts c.args.k (omega (arith, c.count.ensures, c.if-k-count.false)))

pub range-requires-clause-end_boundary : goal.range-requires-clause-end_boundary
range-requires-clause-end_boundary c =
    end_border c.args.text.now c.args.table.now.starts c.utf8.text c.requires.starts c.args.k c.line_end_offset-end.result c.line_end_offset-end.ensures.next c.line_end_offset-end.ensures.last

pub returns : goal.returns
returns c =
    let found = found_line c.args.text.now c.args.table.now.starts c.utf8.text c.requires.starts c.args.k c.line_end_offset-end.result (omega (arith, c.count.ensures, c.if-k-count.false)) c.line_end_offset-end.ensures.next c.line_end_offset-end.ensures.last in
    let start : length found.front ≡ c.line_start.result = omega (arith, found.here, c.line_start.ensures) in
    let long : length (encode_utf8_all (line_with_ending found.line)) ≡ c.line_end_offset-end.result - c.line_start.result = omega (arith, found.there, c.line_start.ensures) in
    let following : drop c.line_start.result c.args.text.now ≡ encode_utf8_all (line_with_ending found.line) ++ found.rest = ap (drop c.line_start.result) found.split ∙ drop_at found.front _ _ start in
    let bytes : c.range.result.now ≡ encode_utf8_all (line_with_ending found.line) = c.range.ensures.value ∙ ap (take (c.line_end_offset-end.result - c.line_start.result)) following ∙ take_at _ found.rest _ long in
    ap Some (sym (chars_from_encodes (line_with_ending found.line) c.range.result.now c.range.utf8 (sym bytes)))
    ∙ ap (option_map line_with_ending) (sym found.is_indented_break)
