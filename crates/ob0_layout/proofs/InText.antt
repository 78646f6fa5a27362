-- Proves that the tokens and comments in their text are in order, with only white space before,
-- between and after them.
-- No token or comment begins or ends inside a line ending.
use Rattle.std.proofs.Common.{◌≡◌, ℕ, ◌+◌, ◌-◌, ◌≤◌, Bool, true, false, ◌||◌, List, [], ◌∷◌, ◌++◌, length, take, drop, slice_range, sym, ap, ◌∙◌, subst, arith, length-drop}
use Rattle.std.specs.List.{AllPass}
use Rattle.std.specs.Str.{IsUtf8}
use Rattle.std.proofs.lemmas.List.{take_at}
use Rattle.std.proofs.lemmas.List.Elements.{All-append, All-nil}
use Rattle.ob0_scan.specs.LexemeClasses.{is_white_space}
use Rattle.ob0_scan.specs.declared.lexeme.LexemeKind.{LexemeKind}
use Rattle.ob0_scan.specs.declared.lexeme.LexemeKind.TheVariants as lexeme
use Rattle.ob0_scan.specs.TextLexemes.{Lexeme, text_of_lexemes}
use Rattle.ob0_scan.specs.TextWithTokens.{TextWithTokens, IsScan, text_in_span, span_with_length}
use Rattle.ob0_edits_tokens.proofs.Borders.{IsBorder, IsRest, next_rest, scan_rest}
use Rattle.ob0_edits_tokens.proofs.TextCuts.{none_taken, two_parts}
use Rattle.ob0_layout.specs.declared.line_role.LineRole.{LineRole}
use Rattle.ob0_layout.specs.Layout.{LexemeWithRole, lexemes_with_roles, next_token_line_level, next_token_role, contains_line_break, comment_role}

abbrev pub White : List ℕ → Type 0
White = AllPass is_white_space

pub no_white : White []
no_white = All-nil (λ b. is_white_space b ≡ true)

-- states that only white space lies between two borders of a text
pub record IsSpaced (text : List ℕ) (from to : ℕ) : Type 0 where
  pub ordered : from ≤ to
  pub within : to ≤ length text
  pub white : White (slice_range text from to)
  pub start : IsBorder text from
  pub end : IsBorder text to

-- states that a token or comment is at its place in a text
pub record IsAt (text : List ℕ) (a : LexemeWithRole) : Type 0 where
  pub ordered : a.span.start ≤ a.span.end
  pub here : text_in_span text a.span ≡ a.lexeme.text

-- holds if the text from this place has these tokens and comments, and otherwise only white space
unfoldable pub AreIn : List ℕ → ℕ → List LexemeWithRole → Type 0
AreIn text from [] = IsSpaced text from (length text)
AreIn text from (a ∷ bs) = IsSpaced text from a.span.start × IsAt text a × AreIn text a.span.end bs

module _ (text : List ℕ) (u : IsUtf8 text) where
  -- White space followed by white space is white space.
  longer : (from at : ℕ) (t rest : List ℕ) → from ≤ at → drop at text ≡ t ++ rest → White (slice_range text from at) → White t → White (slice_range text from (at + length t))
  longer from at t rest up here w v =
      let size : length t ≡ at + length t - at = omega arith in
      let taken : take (at + length t - at) (drop at text) ≡ t = ap (take (at + length t - at)) here ∙ take_at t rest (at + length t - at) size in
      let whole : slice_range text from (at + length t) ≡ slice_range text from at ++ t =
      two_parts text from at (at + length t) up (omega arith) ∙ ap (λ xs. slice_range text from at ++ xs) taken in
      subst White (sym whole) (All-append (λ b. is_white_space b ≡ true) (slice_range text from at) t w v)

  empty : (at : ℕ) → White (slice_range text at at)
  empty at = subst White (sym (none_taken at (drop at text))) no_white

  -- holds if the lexemes placed after a border are in the text, provided that only white space
  -- precedes them
  abbrev Placed : ℕ → List Lexeme → Type 0
  Placed at rest = (from level : ℕ) (broken : Bool) (ss : List LineRole) → from ≤ at → IsBorder text from → White (slice_range text from at) → AreIn text from (lexemes_with_roles at level broken ss rest)

  placed_solid : (k : LexemeKind) (at : ℕ) (t : List ℕ) (ls : List Lexeme) → IsRest text at (record { kind = k; text = t } ∷ ls) → Placed (at + length t) ls
      → (role : LineRole) (from level : ℕ) (ss : List LineRole) → from ≤ at → IsBorder text from → White (slice_range text from at)
      → AreIn text from (record { lexeme = record { kind = k; text = t }; span = span_with_length at (length t); role = role } ∷ lexemes_with_roles (at + length t) level false ss ls)
  unfolding AreIn
  placed_solid k at t ls s more role from level ss up start white =
      let long : length t ≡ at + length t - at = omega arith in (
        record { ordered = up; within = s.border.place.0; white = white; start = start; end = s.border },
        record { ordered = omega arith; here = ap (take (at + length t - at)) s.whole ∙ take_at t (text_of_lexemes ls) (at + length t - at) long },
        more (at + length t) level false ss (omega arith) (next_rest text u at (record { kind = k; text = t }) ls s).border (empty (at + length t)),
      )

  placed_kind : (k : LexemeKind) (at : ℕ) (t : List ℕ) (ls : List Lexeme) → IsRest text at (record { kind = k; text = t } ∷ ls) → Placed (at + length t) ls → Placed at (record { kind = k; text = t } ∷ ls)
  placed_kind lexeme.WhiteSpace at t ls s more = λ from level broken ss up start white.
      more from level (broken || contains_line_break t) ss (omega (arith, up)) start (longer from at t (text_of_lexemes ls) up s.whole white s.apart.0.belongs.all)
  placed_kind lexeme.Comment at t ls s more = λ from level broken ss. placed_solid lexeme.Comment at t ls s more (comment_role broken (next_token_line_level level ss)) from level ss
  placed_kind (lexeme.Token k) at t ls s more = λ from level broken ss. placed_solid (lexeme.Token k) at t ls s more (next_token_role ss) from (next_token_line_level level ss) (drop 1 ss)

  placed_from : (rest : List Lexeme) (at : ℕ) → IsRest text at rest → Placed at rest
  unfolding AreIn
  placed_from [] at s = λ from level broken ss up start white.
      let end : at ≡ length text = omega (arith, s.border.place.0, length-drop at text, ap length s.whole) in
      subst (IsSpaced text from) end (record { ordered = up; within = s.border.place.0; white = white; start = start; end = s.border })
  placed_from (l ∷ ls) at s = placed_kind l.kind at l.text ls s (placed_from ls (at + length l.text) (next_rest text u at l ls s))

-- A scanned text has its tokens and comments.
pub all_in : (s : TextWithTokens) (scan : IsScan s) (ss : List LineRole) → AreIn s.text 0 (lexemes_with_roles 0 0 true ss scan.lexemes)
all_in s scan ss =
    let start = scan_rest s scan in
    placed_from s.text scan.utf8 scan.lexemes 0 start 0 0 true ss (omega arith) start.border (empty s.text scan.utf8 0)
