-- Defines whether a lexeme ends before a given byte or is continued by it.
-- Rule: docs/LANGUAGE.md, Lexemes 1 (as long as possible), 4.
use Rattle.std.specs.Prelude.{◌≡◌, ℕ, Bool, false, ◌==◌, List, [], ◌∷◌, slice_index}
use Rattle.std.specs.Char.{is_ascii_alphanumeric}
use Rattle.ob0_scan.specs.declared.lexeme.Symbol.{Symbol}
use Rattle.ob0_scan.specs.declared.lexeme.Symbol.TheVariants as symbol
use Rattle.ob0_scan.specs.declared.lexeme.TokenKind.TheVariants as token
use Rattle.ob0_scan.specs.declared.lexeme.LexemeKind.{LexemeKind}
use Rattle.ob0_scan.specs.declared.lexeme.LexemeKind.TheVariants as lexeme
use Rattle.ob0_scan.specs.LexemeClasses.{is_white_space, IsLexemeOfKind}
use Rattle.ob0_scan.specs.TextLexemes.{Lexeme, text_of_lexemes}

-- Returns whether the symbol and the next byte form a longer symbol or the beginning of a comment.
-- 61 is `=` and 42 is `*`.
abbrev pub continues_symbol : Symbol → ℕ → Bool
continues_symbol symbol.And byte = false
continues_symbol symbol.Times byte = false
continues_symbol symbol.Plus byte = false
continues_symbol symbol.Minus byte = false
continues_symbol symbol.Equal byte = false
continues_symbol symbol.NotEqual byte = false
continues_symbol symbol.Less byte = byte == 61
continues_symbol symbol.LessEqual byte = false
continues_symbol symbol.Greater byte = byte == 61
continues_symbol symbol.GreaterEqual byte = false
continues_symbol symbol.Not byte = false
continues_symbol symbol.Dot byte = false
continues_symbol symbol.Comma byte = false
continues_symbol symbol.Semicolon byte = false
continues_symbol symbol.Colon byte = byte == 61
continues_symbol symbol.Becomes byte = false
continues_symbol symbol.LeftParen byte = byte == 42
continues_symbol symbol.RightParen byte = false
continues_symbol symbol.LeftBracket byte = false
continues_symbol symbol.RightBracket byte = false

-- Returns whether the next byte continues a lexeme of this kind. A letter also counts as continuing
-- an integer, because no letter may directly follow one.
abbrev pub continues_lexeme : LexemeKind → ℕ → Bool
continues_lexeme lexeme.WhiteSpace byte = is_white_space byte
continues_lexeme lexeme.Comment byte = false
continues_lexeme (lexeme.Token token.Identifier) byte = is_ascii_alphanumeric byte
continues_lexeme (lexeme.Token (token.ReservedWord word)) byte = is_ascii_alphanumeric byte
continues_lexeme (lexeme.Token (token.Integer value)) byte = is_ascii_alphanumeric byte
continues_lexeme (lexeme.Token (token.Symbol s)) byte = continues_symbol s byte

-- States that the lexeme's text belongs to the class of its kind, and that the lexeme isn't
-- continued by `byte`, the byte after it. At the end of a text this byte reads as 0.
pub record EndsBeforeByte (l : Lexeme) (byte : ℕ) : Type 0 where
  pub belongs : IsLexemeOfKind l.kind l.text
  pub ends : continues_lexeme l.kind byte ≡ false

-- States that each lexeme belongs to the class of its kind, and isn't continued by the first byte
-- of the lexemes after it. For the last lexeme this byte reads as 0.
abbrev pub EachLexemeEndsBeforeNext : List Lexeme → Type 0
EachLexemeEndsBeforeNext [] = Unit {0}
EachLexemeEndsBeforeNext (l ∷ lexemes) = EndsBeforeByte l (slice_index (text_of_lexemes lexemes) 0) × EachLexemeEndsBeforeNext lexemes
