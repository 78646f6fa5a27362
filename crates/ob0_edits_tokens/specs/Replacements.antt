-- Defines the text that results if several identifiers are replaced by another text, and the edits
-- that replace them.
-- Rule: docs/PROTOCOL.md, Requests on documents 10.
use Rattle.std.specs.Prelude.{◌≡◌, ℕ, suc, ◌<◌, ◌≤◌, false, List, [], ◌∷◌, ◌++◌, length, map, IsTrue, Some, slice_index, slice_index_or, string_bytes}
use Rattle.std.specs.Char.{is_ascii_alphabetic, is_ascii_alphanumeric}
use Rattle.std.specs.Str.{chars}
use Rattle.ob0_scan.specs.declared.lexeme.TokenKind.TheVariants as token
use Rattle.ob0_scan.specs.declared.lexeme.LexemeKind.{LexemeKind}
use Rattle.ob0_scan.specs.declared.lexeme.Span.{Span}
use Rattle.ob0_scan.specs.declared.lexeme.Token.{Token}
use Rattle.ob0_scan.specs.TextLexemes.{Lexeme, text_of_lexemes}
use Rattle.ob0_scan.specs.LexemeEnds.{continues_lexeme, EndsBeforeByte}
use Rattle.ob0_scan.specs.TextWithTokens.{Word, words_of_lexemes, TextWithTokens, IsScan}
use Rattle.ob0_text.specs.declared.edits.Edit.{Edit}
use Rattle.ob0_text.specs.declared.position_types.Range.{Range}
use Rattle.ob0_text.specs.declared.position_types.Unit as counting
use Rattle.ob0_text.specs.Units.{width_of}
use Rattle.ob0_text.specs.Patches.{Cut, text_after_cuts_from_offset, patched_text}
use Rattle.ob0_edits_tokens.specs.WordReplacements.{words_of_text}
use Rattle.ob0_edits_tokens.specs.Ranges.{range_of}

-- Returns the token with this index. If there is no such token, returns an empty identifier at the
-- text's start.
abbrev pub token_at_or_empty : List Token → ℕ → Token
token_at_or_empty tokens p =
    slice_index_or tokens p
    (record { kind = token.Identifier; span = record { start = 0; end = 0 } })

-- Returns the span of the token with this index. If there is no such token, returns an empty span
-- at the text's start.
abbrev pub token_span_or_empty : List Token → ℕ → Span
token_span_or_empty tokens p = (token_at_or_empty tokens p).span

-- States that the given numbers are token indexes of identifiers, in strictly ascending order, and
-- that each is at least `least`.
abbrev pub AreIdentifierIndexes : List Token → ℕ → List ℕ → Type 0
AreIdentifierIndexes tokens least [] = Unit {0}
AreIdentifierIndexes tokens least (p ∷ ps) =
    (least ≤ p)
    × (p < length tokens)
    × ((token_at_or_empty tokens p).kind ≡ token.Identifier)
    × AreIdentifierIndexes tokens (suc p) ps

-- Returns the cut, in byte offsets, that replaces the token with the index `p` by `new`.
abbrev pub replacement_cut : List Token → List ℕ → ℕ → Cut
replacement_cut tokens new p =
    record { from = (token_span_or_empty tokens p).start; to = (token_span_or_empty tokens p).end; new = new }

-- Returns the text in which each token whose index is in `token_indexes` is replaced by `new`.
abbrev pub text_after_replacement : TextWithTokens → List ℕ → List ℕ → List ℕ
text_after_replacement s token_indexes new = text_after_cuts_from_offset s.text 0 (map (replacement_cut s.tokens new) token_indexes)

-- States that each lexeme's text belongs to the class of the lexeme's kind, and that the byte after
-- the lexeme never continues it. `byte` is the byte after the last lexeme.
abbrev pub LexemesEndBeforeByte : List Lexeme → ℕ → Type 0
LexemesEndBeforeByte [] byte = Unit {0}
LexemesEndBeforeByte (l ∷ lexemes) byte =
    EndsBeforeByte l (slice_index (text_of_lexemes lexemes ++ (byte ∷ [])) 0) × LexemesEndBeforeByte lexemes byte

-- States that the text `new`, whose words are `ws`, may replace any identifier. `new` isn't empty.
-- If a letter can't continue the lexeme before `new`, the first byte of `new` can't continue that
-- lexeme either. The lexemes of `new` stay separate from one another, and from a following byte
-- that isn't a letter or digit.
pub record MayReplaceIdentifier (new : List ℕ) (ws : List Word) : Type 0 where
  pub lexemes : List Lexeme
  pub whole : text_of_lexemes lexemes ≡ new
  pub read : words_of_lexemes lexemes ≡ ws
  pub some : 0 < length new
  pub front : (kind : LexemeKind) (letter : ℕ)
      → IsTrue (is_ascii_alphabetic letter)
      → continues_lexeme kind letter ≡ false
      → continues_lexeme kind (slice_index new 0) ≡ false
  pub apart : (byte : ℕ) → is_ascii_alphanumeric byte ≡ false → LexemesEndBeforeByte lexemes byte

-- Returns an edit as a pair: its range, and its text as a list of bytes.
abbrev pub range_and_text : Edit → Range × List ℕ
range_and_text edit = (edit.range, string_bytes edit.text)

-- Returns the edit, as a pair of its range and text, that replaces the token with the index `p` by
-- `new`.
abbrev pub replacement_at_token : counting.Unit → List ℕ → List Token → List ℕ → ℕ → Range × List ℕ
replacement_at_token unit text tokens new p = (range_of (width_of unit) text (token_span_or_empty tokens p), new)

-- States that the edits, applied to `text` together, give a text that can be scanned and has the
-- words `ws`.
pub record EditedTextHasWords
    (unit : counting.Unit) (text : List ℕ) (edits : List Edit) (ws : List Word) : Type 0 where
  pub after : TextWithTokens
  pub scan : IsScan after
  pub made : patched_text (width_of unit) text edits ≡ Some (chars after.text)
  pub words_are : words_of_text after ≡ ws
