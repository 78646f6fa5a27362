-- Defines how a text is cut into its lexemes.
-- Rule: docs/LANGUAGE.md, Lexemes 1.
use Rattle.std.specs.Prelude.{◌≡◌, ◌≢◌, ℕ, ◌≤◌, false, List, [], ◌∷◌, ◌++◌, length, slice_index}
use Rattle.std.specs.List.{flat_map}
use Rattle.std.specs.Char.{is_ascii_alphanumeric}
use Rattle.ob0_scan.specs.declared.lexeme.Symbol.TheVariants as symbol
use Rattle.ob0_scan.specs.declared.lexeme.TokenKind.TheVariants as token
use Rattle.ob0_scan.specs.declared.lexeme.LexemeKind.{LexemeKind}
use Rattle.ob0_scan.specs.declared.lexeme.LexemeKind.TheVariants as lexeme
use Rattle.ob0_scan.specs.LexemeClasses.{IsLexemeOfKind}

-- A lexeme: its kind and its text.
pub record Lexeme : Type 0 where
  pub kind : LexemeKind
  pub text : List ℕ

-- Returns the texts of the lexemes, joined in order.
abbrev pub text_of_lexemes : List Lexeme → List ℕ
text_of_lexemes lexemes = flat_map (λ l. l.text) lexemes

-- States that the text `after` may follow a lexeme of this kind. No letter or digit may follow an
-- integer, and no `*` (42) may follow a `(`. Any text may follow a lexeme of another kind. The
-- first byte of an empty text reads as 0.
abbrev pub LexemeMayPrecedeText : LexemeKind → List ℕ → Type 0
LexemeMayPrecedeText lexeme.WhiteSpace after = Unit {0}
LexemeMayPrecedeText lexeme.Comment after = Unit {0}
LexemeMayPrecedeText (lexeme.Token token.Identifier) after = Unit {0}
LexemeMayPrecedeText (lexeme.Token (token.ReservedWord word)) after = Unit {0}
LexemeMayPrecedeText (lexeme.Token (token.Integer value)) after =
    is_ascii_alphanumeric (slice_index after 0) ≡ false
LexemeMayPrecedeText (lexeme.Token (token.Symbol s)) after = s ≡ symbol.LeftParen → slice_index after 0 ≢ 42

-- States that `l` is the first lexeme of the text that consists of `l` and the rest `after`. The
-- lexeme is the longest prefix of this text that belongs to a class, and `after` may follow a
-- lexeme of this kind.
pub record IsFirstLexeme (l : Lexeme) (after : List ℕ) : Type 0 where
  pub belongs : IsLexemeOfKind l.kind l.text
  pub longest : (kind : LexemeKind) (prefix rest_of_text : List ℕ)
      → IsLexemeOfKind kind prefix
      → prefix ++ rest_of_text ≡ l.text ++ after
      → length prefix ≤ length l.text
  pub precedes : LexemeMayPrecedeText l.kind after

-- States that each lexeme in the list is the first lexeme of the remaining text. The remaining text
-- consists of this lexeme, all later lexemes and the text `after`.
abbrev pub AreLeadingLexemes : List Lexeme → List ℕ → Type 0
AreLeadingLexemes [] after = Unit {0}
AreLeadingLexemes (l ∷ lexemes) after = IsFirstLexeme l (text_of_lexemes lexemes ++ after) × AreLeadingLexemes lexemes after

-- States that these are the lexemes into which the text is cut.
pub record LexesInto (text : List ℕ) (lexemes : List Lexeme) : Type 0 where
  pub whole : text_of_lexemes lexemes ≡ text
  pub each : AreLeadingLexemes lexemes []
