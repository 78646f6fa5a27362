-- Defines which tokens and comments a scan of a changed text reuses from the previous scan.
-- Rule: none; used in contracts of `rescan`.
use Rattle.std.specs.Prelude.{◌≡◌, ◌≢◌, ℕ, ◌+◌, ◌-◌, ◌≤◌, List, [], ◌++◌, length, map, take, drop, nat_lt}
use Rattle.std.specs.List.{All, prefix_len}
use Rattle.ob0_scan.specs.declared.lexeme.Span.{Span}
use Rattle.ob0_scan.specs.declared.lexeme.Token.{Token}
use Rattle.ob0_scan.specs.declared.lexeme.TokenKind.{TokenKind}
use Rattle.ob0_scan.specs.declared.lexeme.TokenKind.TheVariants as kind
use Rattle.ob0_scan.specs.TextWithTokens.{TextWithTokens, Word, word_of_token, text_in_span}

-- States that the new text is the old text with one change: the `removed` bytes that start at the
-- byte offset `from` are replaced by `added` bytes. Before and after these bytes, the two texts are
-- equal.
pub record ReplacesRange (old new : List ℕ) (from removed added : ℕ) : Type 0 where
  pub inside_old : from + removed ≤ length old
  pub inside_new : from + added ≤ length new
  pub front : take from old ≡ take from new
  pub behind : drop (from + removed) old ≡ drop (from + added) new

-- Returns a token's kind, with the value of an integer set to 0. Any other kind is returned
-- unchanged.
abbrev pub kind_without_value : TokenKind → TokenKind
kind_without_value (kind.Integer value) = kind.Integer 0
kind_without_value k = k

-- Returns the kinds of the tokens, in order, with the values of integers set to 0.
abbrev pub token_kinds_without_values : List Token → List TokenKind
token_kinds_without_values tokens = map (λ (t : Token). kind_without_value t.kind) tokens

-- Returns the spelling `text` of a token if the token is an identifier, or the empty text for any
-- other kind of token.
abbrev pub spelling_if_identifier : TokenKind → List ℕ → List ℕ
spelling_if_identifier kind.Identifier text = text
spelling_if_identifier (kind.Integer value) text = []
spelling_if_identifier (kind.ReservedWord word) text = []
spelling_if_identifier (kind.Symbol symbol) text = []

-- Returns the spellings of the identifiers among a text's tokens, in order, with an empty text for
-- each other token.
abbrev pub spellings_of_identifiers_in : List ℕ → List Token → List (List ℕ)
spellings_of_identifiers_in text tokens = map (λ (t : Token). spelling_if_identifier t.kind (text_in_span text t.span)) tokens

-- Returns the tokens of a text as words: their kinds and spellings, without their spans.
abbrev pub words_of_tokens : List ℕ → List Token → List Word
words_of_tokens text tokens = map (word_of_token text) tokens

-- Returns the span of the new text that corresponds to a span of the old text after the change. The
-- start and the end are shifted by `added - removed` bytes.
abbrev pub span_after_shift : ℕ → ℕ → Span → Span
span_after_shift removed added span =
    record { start = span.start + added - removed; end = span.end + added - removed }

-- Returns the token of the new text that corresponds to a token of the old text after the change.
-- Its span is shifted by `added - removed` bytes.
abbrev pub token_after_shift : ℕ → ℕ → Token → Token
token_after_shift removed added token =
    record { kind = token.kind; span = span_after_shift removed added token.span }

-- Returns the leading tokens that end before the byte offset `place`.
abbrev pub tokens_ending_before : ℕ → List Token → List Token
tokens_ending_before place tokens = take (prefix_len (λ t. nat_lt t.span.end place) tokens) tokens

-- Returns the leading comments that end before the byte offset `place`.
abbrev pub comments_ending_before : ℕ → List Span → List Span
comments_ending_before place comments =
    take (prefix_len (λ c. nat_lt c.end place) comments) comments

-- Returns the tokens without the leading tokens that begin before the byte offset `place`.
abbrev pub tokens_beginning_at_or_after : ℕ → List Token → List Token
tokens_beginning_at_or_after place tokens = drop (prefix_len (λ t. nat_lt t.span.start place) tokens) tokens

-- Returns the comments without the leading comments that begin before the byte offset `place`.
abbrev pub comments_beginning_at_or_after : ℕ → List Span → List Span
comments_beginning_at_or_after place comments = drop (prefix_len (λ c. nat_lt c.start place) comments) comments

-- States that no token and no comment of the scan begins at this byte offset.
pub record NoLexemeBeginsAt (s : TextWithTokens) (place : ℕ) : Type 0 where
  pub tokens : All (λ (t : Token). t.span.start ≢ place) s.tokens
  pub comments : All (λ (c : Span). c.start ≢ place) s.comments

-- States that a span of the new text has no counterpart in the old text. This means that no token
-- or comment of the old text begins at the offset that corresponds to the span's start. States
-- nothing if the span begins before the end of the changed bytes.
abbrev pub MatchesNoOldLexemeAfterChange : TextWithTokens → ℕ → ℕ → ℕ → Span → Type 0
MatchesNoOldLexemeAfterChange old from removed added span =
    from + added ≤ span.start → NoLexemeBeginsAt old (span.start + removed - added)

-- States that the tokens and comments of the new text have three parts. The first part has the old
-- ones that end before the change. The last part has the old ones that begin at `place` or later,
-- after the change, with shifted spans. The part between them has `read` tokens and comments. If
-- one of these begins after the change, no old token or comment begins at the corresponding place
-- in the old text. So a non-empty last part starts at the first place after the change at which a
-- token or comment begins in both texts.
pub record ReusesOldLexemes (old new : TextWithTokens) (from removed added read : ℕ) : Type 0 where
  pub place : ℕ
  pub behind_change : from + removed ≤ place
  pub tokens_between : List Token
  pub comments_between : List Span
  pub tokens : new.tokens
      ≡ (tokens_ending_before from old.tokens ++ tokens_between)
      ++ map (token_after_shift removed added) (tokens_beginning_at_or_after place old.tokens)
  pub comments : new.comments
      ≡ (comments_ending_before from old.comments ++ comments_between)
      ++ map (span_after_shift removed added) (comments_beginning_at_or_after place old.comments)
  pub read_count : read ≡ length tokens_between + length comments_between
  pub tokens_new_behind_change : All (λ (t : Token). MatchesNoOldLexemeAfterChange old from removed added t.span) tokens_between
  pub comments_new_behind_change : All (λ (c : Span). MatchesNoOldLexemeAfterChange old from removed added c) comments_between
