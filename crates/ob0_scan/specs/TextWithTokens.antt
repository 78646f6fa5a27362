-- Defines the tokens and comments of a text, with their places.
-- Rule: docs/LANGUAGE.md, Lexemes 6.
use Rattle.std.specs.Prelude.{◌≡◌, ℕ, ◌+◌, ◌≤◌, List, [], ◌∷◌, ◌++◌, length, slice_range}
use Rattle.std.specs.Str.{IsCharBoundary, IsUtf8}
use Rattle.std.specs.List.{flat_map}
use Rattle.ob0_scan.specs.declared.lexeme.TokenKind.{TokenKind}
use Rattle.ob0_scan.specs.declared.lexeme.LexemeKind.{LexemeKind}
use Rattle.ob0_scan.specs.declared.lexeme.LexemeKind.TheVariants as lexeme
use Rattle.ob0_scan.specs.declared.lexeme.Span.{Span}
use Rattle.ob0_scan.specs.declared.lexeme.Token.{Token}
use Rattle.ob0_scan.specs.TextLexemes.{Lexeme, LexesInto}

-- A token as the grammar sees it: its kind and its spelling.
pub record Word : Type 0 where
  pub kind : TokenKind
  pub text : List ℕ

-- Returns a list with one word, the kind and text of the lexeme, if the lexeme is a token. Returns
-- the empty list for white space and comments. The second argument is the lexeme's kind.
abbrev pub words_of_one_lexeme : Lexeme → LexemeKind → List Word
words_of_one_lexeme l lexeme.WhiteSpace = []
words_of_one_lexeme l lexeme.Comment = []
words_of_one_lexeme l (lexeme.Token kind) = record { kind = kind; text = l.text } ∷ []

-- Returns the tokens among the lexemes, as kinds and spellings, in order. White space and comments
-- are left out.
abbrev pub words_of_lexemes : List Lexeme → List Word
words_of_lexemes lexemes = flat_map (λ l. words_of_one_lexeme l l.kind) lexemes

-- Returns the bytes of a text that are in a span.
abbrev pub text_in_span : List ℕ → Span → List ℕ
text_in_span text span = slice_range text span.start span.end

-- Returns a token of a text as the grammar sees it: its kind and its spelling.
abbrev pub word_of_token : List ℕ → Token → Word
word_of_token text token = record { kind = token.kind; text = text_in_span text token.span }

-- Returns the span of `len` bytes that starts at the byte offset `start`.
abbrev pub span_with_length : ℕ → ℕ → Span
span_with_length start len = record { start = start; end = start + len }

-- Returns a list with one token, which has the lexeme's kind and span, if the lexeme is a token.
-- Returns the empty list for white space and comments.
abbrev pub tokens_of_one_lexeme : LexemeKind → Span → List Token
tokens_of_one_lexeme lexeme.WhiteSpace span = []
tokens_of_one_lexeme lexeme.Comment span = []
tokens_of_one_lexeme (lexeme.Token kind) span = record { kind = kind; span = span } ∷ []

-- Returns a list with the lexeme's span if the lexeme is a comment, otherwise an empty list.
abbrev pub comments_of_one_lexeme : LexemeKind → Span → List Span
comments_of_one_lexeme lexeme.WhiteSpace span = []
comments_of_one_lexeme lexeme.Comment span = span ∷ []
comments_of_one_lexeme (lexeme.Token kind) span = []

-- Returns the tokens among these lexemes, with their spans. The first lexeme begins at the byte
-- offset `start`.
abbrev pub tokens_of_lexemes_from : ℕ → List Lexeme → List Token
tokens_of_lexemes_from start [] = []
tokens_of_lexemes_from start (l ∷ lexemes) =
    tokens_of_one_lexeme l.kind (span_with_length start (length l.text)) ++ tokens_of_lexemes_from (start + length l.text) lexemes

-- Returns the spans of the comments among these lexemes. The first lexeme begins at the byte offset
-- `start`.
abbrev pub comments_of_lexemes_from : ℕ → List Lexeme → List Span
comments_of_lexemes_from start [] = []
comments_of_lexemes_from start (l ∷ lexemes) =
    comments_of_one_lexeme l.kind (span_with_length start (length l.text))
    ++ comments_of_lexemes_from (start + length l.text) lexemes

-- The greatest length in bytes of a text that is scanned.
abbrev pub max_text_length : ℕ
max_text_length = 1048576

-- The greatest number of faults that are reported for a text.
abbrev pub max_faults : ℕ
max_faults = 100

-- States that the text isn't too long and can be cut into lexemes.
abbrev pub IsScannable : List ℕ → Type 0
IsScannable text = (length text ≤ max_text_length) × ((lexemes : List Lexeme) × LexesInto text lexemes)

-- A text with its tokens and comments.
pub record TextWithTokens : Type 0 where
  pub text : List ℕ
  pub tokens : List Token
  pub comments : List Span

-- States that `s` has exactly the tokens and comments of its text, in text order. Also states that
-- the text isn't too long.
pub record IsScan (s : TextWithTokens) : Type 0 where
  pub utf8 : IsUtf8 s.text
  pub short : length s.text ≤ max_text_length
  pub lexemes : List Lexeme
  pub lexed : LexesInto s.text lexemes
  pub tokens : s.tokens ≡ tokens_of_lexemes_from 0 lexemes
  pub comments : s.comments ≡ comments_of_lexemes_from 0 lexemes

-- States that the span is a range of the text. Its start isn't after its end, and both are in the
-- text and at character borders.
pub record IsRangeOf (text : List ℕ) (span : Span) : Type 0 where
  pub ordered : span.start ≤ span.end
  pub start : IsCharBoundary text span.start
  pub end : IsCharBoundary text span.end

-- States that `s` is the scan of this text: the text itself with exactly its tokens and comments.
pub record IsScanOf (text : List ℕ) (s : TextWithTokens) : Type 0 where
  pub of : s.text ≡ text
  pub scan : IsScan s
