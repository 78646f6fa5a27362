-- Defines the edits of the answers about the example text, and proves which texts result from them.
use Rattle.std.proofs.Common.{◌≡◌, ◌∙◌, ◌≤◌, ℕ, List, [], ◌∷◌, Some, map, length, refl, sym, ap, arith}
use Rattle.std.specs.Prelude.{codes, decimal}
use Rattle.std.specs.Fmt.{digits}
use Rattle.std.specs.Str.{chars, IsUtf8}
use Rattle.ob0_scan.specs.TextLexemes.{text_of_lexemes}
use Rattle.ob0_text.specs.declared.edits.Edit.{Edit}
use Rattle.ob0_text.specs.declared.position_types.Unit.TheVariants.{Utf16}
use Rattle.ob0_text.specs.Units.{width_of}
use Rattle.ob0_text.specs.Texts.{text_before, line_body, ends_line, fitting_prefix, lines, offset_of, position_in_lines, position_of, starts_with_lf}
use Rattle.ob0_text.specs.Texts as texts
use Rattle.ob0_text.specs.Patches.{are_all_disjoint, cut_of_range, cuts_in_text_order, patched_text, text_patched_by_cuts, text_after_cuts_from_offset, char_count_before_position}
use Rattle.ob0_edits_tokens.specs.Ranges.{range_of}
use Rattle.ob0_edits_tokens.specs.Removals.{span_of_tokens, text_after_removal_and_replacement}
use Rattle.ob0_edits_tokens.specs.Replacements.{replacement_at_token, range_and_text, text_after_replacement}
use Rattle.ob0_scope_table.specs.Resolution.{token_span}
use Rattle.ob0_world_worked.specs.WorkedText.{position_on_line, example_text}
use Rattle.ob0_world_worked.proofs.WorkedValues.{string_of}
use Rattle.ob0_world_worked.proofs.WorkedTexts.{chars_so, inlined_lexemes, renamed_lexemes, scanned_of, utf8_so, without_lexemes, worked_lexemes}

abbrev pub edit : ℕ → ℕ → ℕ → (new : List ℕ) → IsUtf8 new → length new ≤ 1048576 → Edit
edit line from to new u short = record { range = record { start = position_on_line line from; end = position_on_line line to }; text = string_of new u short }

abbrev pub puts_y : ℕ → ℕ → ℕ → Edit
puts_y line from to = edit line from to (codes "y") (utf8_so (codes "y") refl) (omega (arith))

abbrev pub renames : List Edit
renames = puts_y 4 2 3 ∷ puts_y 6 2 3 ∷ puts_y 7 8 9 ∷ []

abbrev pub puts_two : Edit
puts_two = edit 6 7 8 (codes "2") (utf8_so (codes "2") refl) (omega (arith))

abbrev pub takes_out : Edit
takes_out = edit 2 2 8 [] (utf8_so [] refl) (omega (arith))

pub x_is_at : offset_of (width_of Utf16) example_text (position_on_line 4 2) ≡ 31
unfolding text_before fitting_prefix lines line_body ends_line starts_with_lf texts.text_of_lines lib.Utf8.encode
x_is_at = refl

pub n_is_at : offset_of (width_of Utf16) example_text (position_on_line 6 7) ≡ 56
unfolding text_before fitting_prefix lines line_body ends_line starts_with_lf texts.text_of_lines lib.Utf8.encode
n_is_at = refl

pub renames_parts : map range_and_text renames ≡ map (replacement_at_token Utf16 example_text (scanned_of worked_lexemes).tokens (codes "y")) (9 ∷ 14 ∷ 20 ∷ [])
unfolding position_of position_in_lines lines ends_line starts_with_lf fitting_prefix
renames_parts = refl

pub inlines_parts : range_and_text puts_two ≡ replacement_at_token Utf16 example_text (scanned_of worked_lexemes).tokens (codes "2") 16
unfolding position_of position_in_lines lines ends_line starts_with_lf fitting_prefix
inlines_parts = refl

renames_made : patched_text (width_of Utf16) example_text renames ≡ Some (text_of_lexemes renamed_lexemes)
unfolding text_patched_by_cuts cut_of_range char_count_before_position are_all_disjoint cuts_in_text_order text_after_cuts_from_offset text_before fitting_prefix lines line_body ends_line starts_with_lf texts.text_of_lines chars
renames_made = refl

pub renames_leave : patched_text (width_of Utf16) example_text renames ≡ Some (chars (text_of_lexemes renamed_lexemes))
renames_leave = renames_made ∙ ap Some (sym (chars_so (text_of_lexemes renamed_lexemes) refl))

inlines_made : patched_text (width_of Utf16) example_text (puts_two ∷ []) ≡ Some (text_of_lexemes inlined_lexemes)
unfolding text_patched_by_cuts cut_of_range char_count_before_position are_all_disjoint cuts_in_text_order text_after_cuts_from_offset text_before fitting_prefix lines line_body ends_line starts_with_lf texts.text_of_lines chars
inlines_made = refl

pub inlines_leave : patched_text (width_of Utf16) example_text (puts_two ∷ []) ≡ Some (chars (text_of_lexemes inlined_lexemes))
inlines_leave = inlines_made ∙ ap Some (sym (chars_so (text_of_lexemes inlined_lexemes) refl))

everywhere_made : patched_text (width_of Utf16) example_text (takes_out ∷ puts_two ∷ []) ≡ Some (text_of_lexemes without_lexemes)
unfolding text_patched_by_cuts cut_of_range char_count_before_position are_all_disjoint cuts_in_text_order text_after_cuts_from_offset text_before fitting_prefix lines line_body ends_line starts_with_lf texts.text_of_lines chars
everywhere_made = refl

pub everywhere_leave : patched_text (width_of Utf16) example_text (takes_out ∷ puts_two ∷ []) ≡ Some (chars (text_of_lexemes without_lexemes))
everywhere_leave = everywhere_made ∙ ap Some (sym (chars_so (text_of_lexemes without_lexemes) refl))

pub declaration_parts : range_and_text takes_out ≡ (range_of (width_of Utf16) example_text (span_of_tokens (scanned_of worked_lexemes).tokens 4 7), [])
unfolding position_of position_in_lines lines ends_line starts_with_lf fitting_prefix
declaration_parts = refl

pub write_is_at : range_of (width_of Utf16) example_text (token_span (scanned_of worked_lexemes) 18) ≡ record { start = position_on_line 7 2; end = position_on_line 7 7 }
unfolding position_of position_in_lines lines ends_line starts_with_lf fitting_prefix
write_is_at = refl

pub renamed_length : length (text_after_replacement (scanned_of worked_lexemes) (9 ∷ 14 ∷ 20 ∷ []) (codes "y")) ≡ 77
unfolding text_after_cuts_from_offset
renamed_length = refl

pub inlined_length : length (text_after_replacement (scanned_of worked_lexemes) (16 ∷ []) (codes "2")) ≡ 77
unfolding text_after_cuts_from_offset
inlined_length = refl

pub without_length : length (text_after_removal_and_replacement (scanned_of worked_lexemes) 4 7 (16 ∷ []) (codes "2")) ≡ 71
unfolding text_after_cuts_from_offset
without_length = refl

pub two_text : decimal 2 ≡ codes "2"
unfolding digits
two_text = refl
