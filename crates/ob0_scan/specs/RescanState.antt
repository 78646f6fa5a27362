-- Defines the states of a scan of a changed text that reuses tokens and comments of the old text.
-- Rule: none; used in private contracts about the scanner.
use Rattle.std.specs.Prelude.{◌≡◌, ℕ, ◌+◌, ◌-◌, ◌<◌, ◌≤◌, ◌^◌, ◌==◌, ◌||◌, ◌⊎◌, Bool, false, List, [], ◌∷◌, ◌++◌, Option, Some, None, IsTrue, length, map, take, drop, max}
use Rattle.std.specs.List.{All, slice_get}
use Rattle.std.specs.List.Sorted.{IsNonDecreasingBy}
use Rattle.ob0_scan.specs.declared.lexeme.Span.{Span}
use Rattle.ob0_scan.specs.declared.lexeme.Token.{Token}
use Rattle.ob0_scan.specs.declared.lexeme.LexemeKind.{LexemeKind}
use Rattle.ob0_scan.specs.declared.scanner.Scanner.{Scanner}
use Rattle.ob0_scan.specs.declared.incremental_scan.RescannedMiddle.{RescannedMiddle}
use Rattle.ob0_scan.specs.TextWithTokens.{TextWithTokens, IsScan, span_with_length, tokens_of_one_lexeme, comments_of_one_lexeme}
use Rattle.ob0_scan.specs.ReusedLexemes.{tokens_beginning_at_or_after, comments_beginning_at_or_after, span_after_shift, token_after_shift, ReusesOldLexemes, MatchesNoOldLexemeAfterChange}

-- Returns the byte offset at which a token ends, or 0 for None.
abbrev pub token_end_or_zero : Option Token → ℕ
token_end_or_zero None = 0
token_end_or_zero (Some t) = t.span.end

-- Returns the byte offset at which a comment ends, or 0 for None.
abbrev pub comment_end_or_zero : Option Span → ℕ
comment_end_or_zero None = 0
comment_end_or_zero (Some c) = c.end

-- Returns the byte offset at which the last token ends or the last comment ends, whichever is
-- greater. Returns 0 if there are neither tokens nor comments.
abbrev pub end_of_last_lexeme : List Token → List Span → ℕ
end_of_last_lexeme tokens comments =
    max (token_end_or_zero (slice_get tokens (length tokens - 1)))
    (comment_end_or_zero (slice_get comments (length comments - 1)))

-- Returns whether the first token begins at this byte offset. Returns false if there is no token.
abbrev pub first_token_begins_at : ℕ → List Token → Bool
first_token_begins_at place [] = false
first_token_begins_at place (t ∷ tokens) = t.span.start == place

-- Returns whether the first comment begins at this byte offset. Returns false if there is no
-- comment.
abbrev pub first_comment_begins_at : ℕ → List Span → Bool
first_comment_begins_at place [] = false
first_comment_begins_at place (c ∷ comments) = c.start == place

-- States that the tokens are in text order and the comments are in text order: neither the starts
-- nor the ends of their spans decrease.
pub record SpansAreInOrder (tokens : List Token) (comments : List Span) : Type 0 where
  pub token_starts_ascend : IsNonDecreasingBy (λ (t : Token). t.span.start) tokens
  pub token_ends_ascend : IsNonDecreasingBy (λ (t : Token). t.span.end) tokens
  pub comment_starts_ascend : IsNonDecreasingBy (λ (c : Span). c.start) comments
  pub comment_ends_ascend : IsNonDecreasingBy (λ (c : Span). c.end) comments

-- States that the span can be shifted by `added - removed` bytes so that its bounds still fit in 32
-- bits. Its start is at least `removed` and at most its end. Its end plus `added` is below 2^32.
pub record IsShiftable (removed added : ℕ) (span : Span) : Type 0 where
  pub start_at_least_removed : removed ≤ span.start
  pub ordered : span.start ≤ span.end
  pub small : span.end + added < 2 ^ 32

-- States that the scanner `t` has the tokens and comments of the scanner `s`, followed by one
-- lexeme that begins at the byte offset `s.at`. White space adds no token and no comment. The
-- scanner `s` has found no fault.
pub record AddsOneLexeme (s t : Scanner) : Type 0 where
  pub kind : LexemeKind
  pub len : ℕ
  pub had_no_fault : length s.faults.items ≡ 0
  pub tokens : t.tokens.items ≡ s.tokens.items ++ tokens_of_one_lexeme kind (span_with_length s.at len)
  pub comments : t.comments.items ≡ s.comments.items ++ comments_of_one_lexeme kind (span_with_length s.at len)

-- States that the scanner `t` has the tokens and comments of the scanner `s`, followed by newly
-- read ones. If a newly read token or comment begins after the change, no old token or comment
-- begins at the corresponding offset in the old text. The change replaces the `removed` bytes that
-- start at the byte offset `from` by `added` bytes.
pub record AddsNewLexemes (old : TextWithTokens) (from removed added : ℕ) (s t : Scanner) : Type 0 where
  pub tokens : List Token
  pub comments : List Span
  pub tokens_are : t.tokens.items ≡ s.tokens.items ++ tokens
  pub comments_are : t.comments.items ≡ s.comments.items ++ comments
  pub tokens_new_behind_change : All (λ (t : Token). MatchesNoOldLexemeAfterChange old from removed added t.span) tokens
  pub comments_new_behind_change : All (λ (c : Span). MatchesNoOldLexemeAfterChange old from removed added c) comments

-- States that a scan of the new text can stop at the byte offset `at`, which is after the change.
-- Either `at` is `end`, the length of the new text, or an old token or comment begins at the
-- corresponding offset in the old text. `tokens` and `comments` are the old tokens and comments
-- that begin at this offset or later.
pub record RescanCanStopAt (old : TextWithTokens) (end from removed added at : ℕ) (tokens : List Token)
    (comments : List Span) : Type 0 where
  pub behind_change : from + added ≤ at
  pub tokens_are : tokens ≡ tokens_beginning_at_or_after (at + removed - added) old.tokens
  pub comments_are : comments ≡ comments_beginning_at_or_after (at + removed - added) old.comments
  pub border : (at ≡ end)
      ⊎ IsTrue
      (first_token_begins_at (at + removed - added) tokens || first_comment_begins_at (at + removed - added) comments)

-- Returns the scan of the new text `new` in three parts: the old tokens and comments before the
-- change, the newly read ones in `b`, and the old ones after the change with shifted spans.
abbrev pub scan_with_new_middle : TextWithTokens → List ℕ → ℕ → ℕ → RescannedMiddle → TextWithTokens
scan_with_new_middle old new removed added b = record {
  text = new;
  tokens =
      take b.old_start.tokens old.tokens
      ++ (b.tokens.items ++ map (token_after_shift removed added) (drop b.old_end.tokens old.tokens));
  comments =
      take b.old_start.comments old.comments
      ++ (b.comments.items
      ++ map (span_after_shift removed added) (drop b.old_end.comments old.comments));
}

-- States that `b` has the correct middle part of the scan of the new text. The tokens and comments
-- in `b` replace the old ones in the index ranges of `b`. The spans of all later old ones are
-- shifted. The result (`scan_with_new_middle`) is the scan of the new text. The old tokens and
-- comments that are kept are the ones that `ReusesOldLexemes` describes.
pub record IsRescannedMiddle (old : TextWithTokens) (new : List ℕ) (from removed added : ℕ) (b : RescannedMiddle)
    : Type 0 where
  pub tokens_ordered : b.old_start.tokens ≤ b.old_end.tokens
  pub tokens_inside : b.old_end.tokens ≤ length old.tokens
  pub comments_ordered : b.old_start.comments ≤ b.old_end.comments
  pub comments_inside : b.old_end.comments ≤ length old.comments
  pub tokens_before : All (λ (t : Token). t.span.end ≤ from) (take b.old_start.tokens old.tokens)
  pub tokens_after : All (λ (t : Token). from + removed ≤ t.span.start)
      (drop b.old_end.tokens old.tokens)
  pub tokens_are_movable : All (λ (t : Token). IsShiftable removed added t.span)
      (drop b.old_end.tokens old.tokens)
  pub comments_are_movable : All (λ (c : Span). IsShiftable removed added c)
      (drop b.old_end.comments old.comments)
  pub scan : IsScan (scan_with_new_middle old new removed added b)
  pub reuses : ReusesOldLexemes old (scan_with_new_middle old new removed added b) from removed added
      (length b.tokens.items + length b.comments.items)
