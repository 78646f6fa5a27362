-- Defines when a text begins with a lexeme of a given kind and length, and when it begins with a
-- symbol.
-- Rule: docs/LANGUAGE.md, Lexemes 1, 7.
use Rattle.std.specs.Prelude.{◌≡◌, ◌≢◌, ℕ, ◌≤◌, List, ◌++◌, length, take, drop}
use Rattle.ob0_scan.specs.declared.lexeme.LexemeKind.{LexemeKind}
use Rattle.ob0_scan.specs.declared.lexeme.Symbol.{Symbol}
use Rattle.ob0_scan.specs.LexemeClasses.{symbol_text}
use Rattle.ob0_scan.specs.TextLexemes.{Lexeme, IsFirstLexeme}

-- States that the first `len` bytes of the text are its first lexeme, and that this lexeme has this
-- kind.
pub record StartsWithLexeme (text : List ℕ) (kind : LexemeKind) (len : ℕ) : Type 0 where
  pub in_range : len ≤ length text
  pub first : IsFirstLexeme (record { kind = kind; text = take len text }) (drop len text)

-- States that the text begins with this symbol of `len` bytes, and with no longer symbol.
pub record IsLongestSymbol (text : List ℕ) (symbol : Symbol) (len : ℕ) : Type 0 where
  pub in_range : len ≤ length text
  pub spelled : take len text ≡ symbol_text symbol
  pub longest : (other_symbol : Symbol) (rest_of_text : List ℕ)
      → symbol_text other_symbol ++ rest_of_text ≡ text
      → length (symbol_text other_symbol) ≤ len

-- States that the text begins with no symbol.
abbrev pub StartsWithNoSymbol : List ℕ → Type 0
StartsWithNoSymbol text = (symbol : Symbol) (rest_of_text : List ℕ) → symbol_text symbol ++ rest_of_text ≢ text

-- States that the text begins with no lexeme.
abbrev pub StartsWithNoLexeme : List ℕ → Type 0
StartsWithNoLexeme text = (l : Lexeme) (after : List ℕ) → IsFirstLexeme l after → l.text ++ after ≢ text
