-- Proves that the edited text can be scanned and has the expected words and length.
use Rattle.std.proofs.Common.{◌≡◌, ℕ, suc, ◌+◌, ◌≤◌, List, [], ◌∷◌, length, map, refl, sym, ap, ◌∙◌, arith}
use Rattle.std.specs.Str.{IsUtf8, chars}
use Rattle.std.proofs.lemmas.Simd.{map-map}
use Rattle.std.proofs.lemmas.Str.{IsCharBoundary-start}
use Rattle.ob0_scan.specs.TextWithTokens.{Word, TextWithTokens, IsScan, tokens_of_lexemes_from, comments_of_lexemes_from, max_text_length}
use Rattle.ob0_scan.proofs.Borders.{cut_into_lexemes_depends_only_on_next_bytes}
use Rattle.ob0_scan.proofs.Spans.{scan_words}
use Rattle.ob0_text.specs.declared.edits.Edit.{Edit}
use Rattle.ob0_text.specs.declared.position_types.Unit as counting
use Rattle.ob0_text.specs.Patches.{Cut, text_after_cuts_from_offset}
use Rattle.ob0_text.specs.Units.{width_of}
use Rattle.ob0_edits_tokens.specs.ByteCuts.{edit_of_cut, length_after_cuts_from_offset}
use Rattle.ob0_edits_tokens.specs.WordReplacements.{WordChanges, words_of_text, changed_words, changes_at_indexes}
use Rattle.ob0_edits_tokens.specs.Ranges.{range_of}
use Rattle.ob0_edits_tokens.specs.Removals.{changes_with_removal, MayBeConstantDeclaration, span_of_tokens, removal_cut, text_after_removal_and_replacement}
use Rattle.ob0_edits_tokens.specs.Replacements.{AreIdentifierIndexes, EditedTextHasWords, MayReplaceIdentifier, range_and_text, replacement_at_token, replacement_cut, token_span_or_empty, text_after_replacement}
use Rattle.ob0_edits_tokens.proofs.Borders.{scan_rest}
use Rattle.ob0_edits_tokens.proofs.Splices.{Leaves, removed, replaced}
use Rattle.ob0_edits_tokens.proofs.TextCuts.{made_length, made_utf8, patched_at_cuts}
use Rattle.ob0_edits_tokens.proofs.TokenPlaces.{AreAt}

module _ (s : TextWithTokens) (scan : IsScan s) (new : List ℕ) (good : IsUtf8 new) where
  start : AreAt s.text scan.utf8 s.tokens 0 0 scan.lexemes
  start = record { rest = scan_rest s scan; tokens_are = scan.tokens }

  abbrev AreLeaving : List Cut → (List Word → WordChanges) → Type 0
  AreLeaving = Leaves s.text scan.utf8 s.tokens new good 0 0 scan.lexemes

  replacements : (places : List ℕ) → AreIdentifierIndexes s.tokens 0 places → AreLeaving (map (replacement_cut s.tokens new) places) (changes_at_indexes places)
  replacements places names = (replaced s.text scan.utf8 s.tokens new good 0 0 scan.lexemes places start names).leaves

  removal : (first last : ℕ) (places : List ℕ) → MayBeConstantDeclaration s.tokens first last → AreIdentifierIndexes s.tokens (suc last) places
      → AreLeaving (removal_cut s.tokens first last ∷ map (replacement_cut s.tokens new) places) (λ ws. changes_with_removal first last (changes_at_indexes places ws))
  removal first last places declaration names = removed s.text scan.utf8 s.tokens new good scan.lexemes first last places start declaration names

  pub length_after_replacement : (places : List ℕ) → AreIdentifierIndexes s.tokens 0 places → 0 + length_after_cuts_from_offset (length s.text) 0 (map (replacement_cut s.tokens new) places) ≡ length (text_after_replacement s places new)
  length_after_replacement places names = omega (arith, made_length s.text 0 (map (replacement_cut s.tokens new) places) (replacements places names).cuts)

  pub length_after_removal : (first last : ℕ) (places : List ℕ) → MayBeConstantDeclaration s.tokens first last → AreIdentifierIndexes s.tokens (suc last) places
      → (token_span_or_empty s.tokens first).start + length_after_cuts_from_offset (length s.text) (token_span_or_empty s.tokens last).end (map (replacement_cut s.tokens new) places) ≡ length (text_after_removal_and_replacement s first last places new)
  length_after_removal first last places declaration names =
      omega (arith, made_length s.text 0 (removal_cut s.tokens first last ∷ map (replacement_cut s.tokens new) places) (removal first last places declaration names).cuts)

  module _ (unit : counting.Unit) (ws : List Word) (may : MayReplaceIdentifier new ws) where
    edits_leave : (cs : List Cut) (changes : List Word → WordChanges) → AreLeaving cs changes → (edits : List Edit) → map range_and_text edits ≡ map (edit_of_cut unit (chars s.text)) cs → length (text_after_cuts_from_offset s.text 0 cs) ≤ max_text_length
        → EditedTextHasWords unit (chars s.text) edits (changed_words (changes ws) 0 (words_of_text s))
    edits_leave cs changes leaves edits e short =
        let left = leaves.left ws may in
        let made : List ℕ = text_after_cuts_from_offset s.text 0 cs in
        let after : TextWithTokens = record { text = made; tokens = tokens_of_lexemes_from 0 left.lexemes; comments = comments_of_lexemes_from 0 left.lexemes } in
        let is_scan : IsScan after = record {
          utf8 = made_utf8 s.text scan.utf8 0 cs (IsCharBoundary-start s.text scan.utf8) leaves.cuts;
          short = short;
          lexemes = left.lexemes;
          lexed = (cut_into_lexemes_depends_only_on_next_bytes made left.lexemes).1 (left.whole, left.apart);
          tokens = refl;
          comments = refl;
        } in
        record {
          after = after;
          scan = is_scan;
          made = patched_at_cuts unit s.text scan.utf8 edits cs leaves.cuts e;
          words_are = scan_words after is_scan ∙ left.read ∙ ap (changed_words (changes ws) 0) (sym (scan_words s scan));
        }

    same_edits : (places : List ℕ) → map (replacement_at_token unit (chars s.text) s.tokens new) places ≡ map (edit_of_cut unit (chars s.text)) (map (replacement_cut s.tokens new) places)
    same_edits places = sym (map-map (edit_of_cut unit (chars s.text)) (replacement_cut s.tokens new) places)

    pub leaves_words : (places : List ℕ) → AreIdentifierIndexes s.tokens 0 places → (edits : List Edit) → map range_and_text edits ≡ map (replacement_at_token unit (chars s.text) s.tokens new) places → length (text_after_replacement s places new) ≤ max_text_length
        → EditedTextHasWords unit (chars s.text) edits (changed_words (changes_at_indexes places ws) 0 (words_of_text s))
    leaves_words places names edits e short = edits_leave (map (replacement_cut s.tokens new) places) (changes_at_indexes places) (replacements places names) edits (e ∙ same_edits places) short

    pub leaves_words_without : (first last : ℕ) (places : List ℕ) → MayBeConstantDeclaration s.tokens first last → AreIdentifierIndexes s.tokens (suc last) places → (edits : List Edit)
        → map range_and_text edits ≡ (range_of (width_of unit) (chars s.text) (span_of_tokens s.tokens first last), []) ∷ map (replacement_at_token unit (chars s.text) s.tokens new) places
        → length (text_after_removal_and_replacement s first last places new) ≤ max_text_length → EditedTextHasWords unit (chars s.text) edits (changed_words (changes_with_removal first last (changes_at_indexes places ws)) 0 (words_of_text s))
    leaves_words_without first last places declaration names edits e short =
        edits_leave (removal_cut s.tokens first last ∷ map (replacement_cut s.tokens new) places) (λ ws. changes_with_removal first last (changes_at_indexes places ws)) (removal first last places declaration names) edits
        (e ∙ ap (λ es. (range_of (width_of unit) (chars s.text) (span_of_tokens s.tokens first last), []) ∷ es) (same_edits places)) short
