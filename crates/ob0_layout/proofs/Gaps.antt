-- Proves that the gaps of a text lie between its tokens and comments, and that replacing them gives
-- the formatted text.
-- Gaps that don't change can be omitted. So the length of the formatted text can be computed from
-- the gaps that change (`changed_length`).
use Rattle.std.proofs.Common.{◌≡◌, ℕ, zero, suc, ◌-◌, ◌<◌, ◌≤◌, Bool, true, false, not, cond, Some, List, [], ◌∷◌, ◌++◌, length, take, drop, map, slice_range, refl, sym, ap, ap₂, ◌∙◌, subst, arith, append_assoc}
use Rattle.std.proofs.Math.Seq.{drop-length}
use Rattle.std.specs.List.{All}
use Rattle.std.specs.Str.{bytes_eq, IsUtf8, IsAscii, chars}
use Rattle.std.proofs.lemmas.Bool.Decides.{nat_tests}
use Rattle.std.proofs.lemmas.List.Elements.{All-cons, All-head, All-nil, All-tail}
use Rattle.std.proofs.lemmas.Slice.Eq.{bytes_eq-Decides}
use Rattle.std.proofs.lemmas.Str.{IsCharBoundary-start, IsUtf8-from_ascii}
use Rattle.ob0_scan.specs.LexemeClasses.{is_white_space}
use Rattle.ob0_scan.specs.TextLexemes.{Lexeme, text_of_lexemes}
use Rattle.ob0_scan.specs.TextWithTokens.{TextWithTokens, IsScan}
use Rattle.ob0_text.specs.declared.edits.Edit.{Edit}
use Rattle.ob0_text.specs.declared.edits.Indent.{Indent}
use Rattle.ob0_text.specs.declared.position_types.Unit as counting
use Rattle.ob0_text.specs.Patches.{Cut, patched_text, text_after_cuts_from_offset}
use Rattle.ob0_text.specs.Units.{width_of}
use Rattle.ob0_edits_tokens.specs.ByteCuts.{edit_of_cut, length_after_cuts_from_offset}
use Rattle.ob0_edits_tokens.specs.Replacements.{range_and_text}
use Rattle.ob0_edits_tokens.proofs.TextCuts.{AreCuts, cuts_from, made_length, made_utf8, patched_at_cuts, pieced_here, pieced_later, two_parts}
use Rattle.ob0_layout.specs.declared.gap.Gap.{Gap}
use Rattle.ob0_layout.specs.declared.gap.Gap.TheVariants.{Nothing, Space, Line}
use Rattle.ob0_layout.specs.declared.line_role.LineRole.{LineRole}
use Rattle.ob0_layout.specs.declared.gap_sites.GapSite.{GapSite}
use Rattle.ob0_layout.specs.Cuts.{GapLiesInText, gap_cut}
use Rattle.ob0_layout.specs.Gaps.{ReplacesOnlyWhiteSpace, all_gaps, changed_gaps, gaps_of_lexemes, gaps_after_token_or_comment, formatting_changes_gap}
use Rattle.ob0_layout.specs.Layout.{LexemeWithRole, lexemes_with_roles, indentation, gap_text_between, gap_text, white_space_lexeme_unless_empty, further_lexemes_with_formatted_gaps, lexemes_with_formatted_gaps}
use Rattle.ob0_layout.proofs.Apart.{indented}
use Rattle.ob0_layout.proofs.InText.{AreIn, IsAt, IsSpaced, White, all_in, no_white}

laid_white : (indent : Indent) (g : Gap) → White (gap_text indent g)
laid_white indent Nothing = no_white
laid_white indent Space = All-cons (λ b. is_white_space b ≡ true) 32 [] refl no_white
laid_white indent (Line level) = All-cons (λ b. is_white_space b ≡ true) 10 (indentation indent level) refl (indented indent level)

line_feed : White (10 ∷ [])
line_feed = All-cons (λ b. is_white_space b ≡ true) 10 [] refl no_white

gap_white : (indent : Indent) (a b : LexemeWithRole) → White (gap_text_between indent a b)
unfolding gap_text_between
gap_white indent a b = laid_white indent _

joined_spaced : (g : List ℕ) (ls : List Lexeme) → text_of_lexemes (white_space_lexeme_unless_empty g ++ ls) ≡ g ++ text_of_lexemes ls
joined_spaced [] ls = refl
joined_spaced (b ∷ bs) ls = refl

-- White space is ASCII.
space_low : (b : ℕ) → is_white_space b ≡ true → b < 128
space_low b e = grind (arith, nat_tests)

white_utf8 : (t : List ℕ) → White t → IsUtf8 t
white_utf8 t w = IsUtf8-from_ascii t (low t w)
  where
    low : (t : List ℕ) → White t → IsAscii t
    low [] w i = omega arith
    low (b ∷ bs) w zero = space_low b (All-head (λ x. is_white_space x ≡ true) b bs w)
    low (b ∷ bs) w (suc i) = low bs (All-tail (λ x. is_white_space x ≡ true) b bs w) i

module _ (text : List ℕ) where
  -- States that these are cuts in order, starting at a place, and that each replaces white space by
  -- white space.
  pub record AreGaps (at : ℕ) (cs : List Cut) : Type 0 where
    pub cuts : AreCuts text at cs
    pub old : All (ReplacesOnlyWhiteSpace text) cs
    pub new : All (λ (c : Cut). White c.new) cs

  no_gap : (at : ℕ) → AreGaps at []
  no_gap at = record { cuts = tt; old = All-nil (ReplacesOnlyWhiteSpace text); new = All-nil (λ (c : Cut). White c.new) }

  first_gap : (at : ℕ) (c : Cut) (cs : List Cut) → at ≤ c.from → IsSpaced text c.from c.to → White c.new → AreGaps c.to cs → AreGaps at (c ∷ cs)
  first_gap at c cs up s w are = record {
    cuts = (record { up = up; ordered = s.ordered; start = s.start; end = s.end; utf8 = white_utf8 c.new w }, are.cuts);
    old = All-cons (ReplacesOnlyWhiteSpace text) c cs s.white are.old;
    new = All-cons (λ (d : Cut). White d.new) c cs w are.new;
  }

  gaps_from : (at low : ℕ) (cs : List Cut) → low ≤ at → AreGaps at cs → AreGaps low cs
  gaps_from at low cs h are = record { cuts = cuts_from text at low cs h are.cuts; old = are.old; new = are.new }

  pub sites_lie : (indent : Indent) (at : ℕ) (gs : List GapSite) → AreCuts text at (map (gap_cut indent) gs) → All (GapLiesInText (length text)) gs
  sites_lie indent at [] are = All-nil (GapLiesInText (length text))
  sites_lie indent at (g ∷ gs) are = All-cons (GapLiesInText (length text)) g gs (record { ordered = are.0.ordered; within = are.0.end.place.0 }) (sites_lie indent g.end gs are.1)

  changed_are : (at : ℕ) (cs : List Cut) → AreCuts text at cs → AreCuts text at (changed_gaps text cs)
  changed_are at [] are = tt
  changed_are at (c ∷ cs) are = elim (formatting_changes_gap text c) as (λ b. AreCuts text at (cond b (c ∷ changed_gaps text cs) (changed_gaps text cs))) [
    | true ↦ (are.0, changed_are c.to cs are.1)
    | false ↦ cuts_from text c.to at (changed_gaps text cs) (omega (arith, are.0.up, are.0.ordered)) (changed_are c.to cs are.1)
  ]

  -- Gaps that don't change can be omitted.
  kept_or_changed : (at : ℕ) (cs : List Cut) → AreCuts text at cs → text_after_cuts_from_offset text at (changed_gaps text cs) ≡ text_after_cuts_from_offset text at cs
  unfolding text_after_cuts_from_offset
  kept_or_changed at [] are = refl
  kept_or_changed at (c ∷ cs) are = by_test (bytes_eq (slice_range text c.from c.to) c.new) refl (kept_or_changed c.to cs are.1)
    where
      by_test : (b : Bool) → bytes_eq (slice_range text c.from c.to) c.new ≡ b → text_after_cuts_from_offset text c.to (changed_gaps text cs) ≡ text_after_cuts_from_offset text c.to cs → text_after_cuts_from_offset text at (changed_gaps text (c ∷ cs)) ≡ text_after_cuts_from_offset text at (c ∷ cs)
      by_test true e more =
          let stays : slice_range text c.from c.to ≡ c.new = (bytes_eq-Decides (slice_range text c.from c.to) c.new).0 e in
          ap (λ b. text_after_cuts_from_offset text at (cond (not b) (c ∷ changed_gaps text cs) (changed_gaps text cs))) e
          ∙ pieced_later text at c.to (changed_gaps text cs) (omega (arith, are.0.up, are.0.ordered)) (changed_are c.to cs are.1)
          ∙ ap (λ xs. take (c.to - at) (drop at text) ++ xs) more
          ∙ ap (λ xs. xs ++ text_after_cuts_from_offset text c.to cs) (two_parts text at c.from c.to are.0.up are.0.ordered)
          ∙ append_assoc (take (c.from - at) (drop at text)) (slice_range text c.from c.to) (text_after_cuts_from_offset text c.to cs)
          ∙ ap (λ xs. take (c.from - at) (drop at text) ++ (xs ++ text_after_cuts_from_offset text c.to cs)) stays
      by_test false e more =
          ap (λ b. text_after_cuts_from_offset text at (cond (not b) (c ∷ changed_gaps text cs) (changed_gaps text cs))) e
          ∙ ap (λ xs. take (c.from - at) (drop at text) ++ (c.new ++ xs)) more

  module _ (indent : Indent) where
    after_are : (a : LexemeWithRole) (bs : List LexemeWithRole) → AreIn text a.span.end bs → AreGaps a.span.end (gaps_after_token_or_comment indent (length text) a bs)
    unfolding AreIn
    after_are a [] h = first_gap a.span.end (record { from = a.span.end; to = length text; new = 10 ∷ [] }) [] (omega arith) h line_feed (no_gap (length text))
    after_are a (b ∷ bs) h =
        first_gap a.span.end (record { from = a.span.end; to = b.span.start; new = gap_text_between indent a b }) (gaps_after_token_or_comment indent (length text) b bs) (omega arith) h.0 (gap_white indent a b)
        (gaps_from b.span.end b.span.start (gaps_after_token_or_comment indent (length text) b bs) h.1.ordered (after_are b bs h.2))

    gaps_are : (bs : List LexemeWithRole) → AreIn text 0 bs → AreGaps 0 (gaps_of_lexemes indent (length text) bs)
    unfolding AreIn
    gaps_are [] h = first_gap 0 (record { from = 0; to = length text; new = [] }) [] (omega arith) h no_white (no_gap (length text))
    gaps_are (b ∷ bs) h =
        first_gap 0 (record { from = 0; to = b.span.start; new = [] }) (gaps_after_token_or_comment indent (length text) b bs) (omega arith) h.0 no_white
        (gaps_from b.span.end b.span.start (gaps_after_token_or_comment indent (length text) b bs) h.1.ordered (after_are b bs h.2))

    nothing_after : text_after_cuts_from_offset text (length text) [] ≡ []
    unfolding text_after_cuts_from_offset
    nothing_after = drop-length text

    -- A token or comment and the gaps after it give the token or comment and the formatted lexemes
    -- after it.
    over : (b : LexemeWithRole) (bs : List LexemeWithRole) → IsAt text b → AreIn text b.span.end bs → text_after_cuts_from_offset text b.span.end (gaps_after_token_or_comment indent (length text) b bs) ≡ text_of_lexemes (further_lexemes_with_formatted_gaps indent b bs)
        → text_after_cuts_from_offset text b.span.start (gaps_after_token_or_comment indent (length text) b bs) ≡ text_of_lexemes (b.lexeme ∷ further_lexemes_with_formatted_gaps indent b bs)
    over b bs is h more =
        pieced_later text b.span.start b.span.end (gaps_after_token_or_comment indent (length text) b bs) is.ordered (after_are b bs h).cuts
        ∙ ap₂ (λ xs ys. xs ++ ys) is.here more

    after_made : (a : LexemeWithRole) (bs : List LexemeWithRole) → AreIn text a.span.end bs → text_after_cuts_from_offset text a.span.end (gaps_after_token_or_comment indent (length text) a bs) ≡ text_of_lexemes (further_lexemes_with_formatted_gaps indent a bs)
    unfolding AreIn
    after_made a [] h = pieced_here text a.span.end (record { from = a.span.end; to = length text; new = 10 ∷ [] }) (length text) [] refl refl ∙ ap (λ xs. 10 ∷ xs) nothing_after
    after_made a (b ∷ bs) h =
        pieced_here text a.span.end (record { from = a.span.end; to = b.span.start; new = gap_text_between indent a b }) b.span.start (gaps_after_token_or_comment indent (length text) b bs) refl refl
        ∙ ap (λ xs. gap_text_between indent a b ++ xs) (over b bs h.1 h.2 (after_made b bs h.2))
        ∙ sym (joined_spaced (gap_text_between indent a b) (b.lexeme ∷ further_lexemes_with_formatted_gaps indent b bs))

    gaps_made : (bs : List LexemeWithRole) → AreIn text 0 bs → text_after_cuts_from_offset text 0 (gaps_of_lexemes indent (length text) bs) ≡ text_of_lexemes (lexemes_with_formatted_gaps indent bs)
    unfolding AreIn
    gaps_made [] h = pieced_here text 0 (record { from = 0; to = length text; new = [] }) (length text) [] refl refl ∙ nothing_after
    gaps_made (b ∷ bs) h = pieced_here text 0 (record { from = 0; to = b.span.start; new = [] }) b.span.start (gaps_after_token_or_comment indent (length text) b bs) refl refl ∙ over b bs h.1 h.2 (after_made b bs h.2)

-- the gaps of a scanned text
module _ (indent : Indent) (s : TextWithTokens) (scan : IsScan s) (ss : List LineRole) where
  abbrev gaps : List Cut
  gaps = all_gaps indent s.text ss scan.lexemes

  abbrev formatted : List ℕ
  formatted = text_of_lexemes (lexemes_with_formatted_gaps indent (lexemes_with_roles 0 0 true ss scan.lexemes))

  pub all_are : AreGaps s.text 0 gaps
  all_are = gaps_are s.text indent (lexemes_with_roles 0 0 true ss scan.lexemes) (all_in s scan ss)

  pub all_changed_are : AreCuts s.text 0 (changed_gaps s.text gaps)
  all_changed_are = changed_are s.text 0 gaps all_are.cuts

  pub all_made : text_after_cuts_from_offset s.text 0 gaps ≡ formatted
  all_made = gaps_made s.text indent (lexemes_with_roles 0 0 true ss scan.lexemes) (all_in s scan ss)

  pub changed_made : text_after_cuts_from_offset s.text 0 (changed_gaps s.text gaps) ≡ formatted
  changed_made = kept_or_changed s.text 0 gaps all_are.cuts ∙ all_made

  pub all_length : length_after_cuts_from_offset (length s.text) 0 gaps ≡ length formatted
  all_length = sym (made_length s.text 0 gaps all_are.cuts) ∙ ap length all_made

  pub changed_length : length_after_cuts_from_offset (length s.text) 0 (changed_gaps s.text gaps) ≡ length formatted
  changed_length = sym (made_length s.text 0 (changed_gaps s.text gaps) all_changed_are) ∙ ap length changed_made

  pub formatted_utf8 : IsUtf8 formatted
  formatted_utf8 = subst IsUtf8 all_made (made_utf8 s.text scan.utf8 0 gaps (IsCharBoundary-start s.text scan.utf8) all_are.cuts)

  -- The edits of the gaps that change, applied together, give the formatted text.
  pub gaps_patched : (unit : counting.Unit) (edits : List Edit) → map range_and_text edits ≡ map (edit_of_cut unit (chars s.text)) (changed_gaps s.text gaps) → patched_text (width_of unit) (chars s.text) edits ≡ Some (chars formatted)
  gaps_patched unit edits e = patched_at_cuts unit s.text scan.utf8 edits (changed_gaps s.text gaps) all_changed_are e ∙ ap (λ t. Some (chars t)) changed_made
