-- Proves that an identifier may replace any identifier.
use Rattle.std.proofs.Common.{◌≡◌, ℕ, ◌==◌, true, false, List, [], ◌∷◌, get_or, refl, sym, ap, ◌∙◌, arith, append-nil, eqb-true}
use Rattle.std.specs.Prelude.{IsTrue}
use Rattle.std.specs.Char.{is_ascii_alphabetic, is_ascii_alphanumeric}
use Rattle.std.proofs.lemmas.Bool.{false_from_ne_true}
use Rattle.std.proofs.lemmas.Bool.Decides.{nat_tests}
use Rattle.ob0_scan.specs.declared.lexeme.Symbol.{Symbol}
use Rattle.ob0_scan.specs.declared.lexeme.Symbol.TheVariants as symbol
use Rattle.ob0_scan.specs.declared.lexeme.TokenKind.TheVariants as token
use Rattle.ob0_scan.specs.declared.lexeme.LexemeKind.{LexemeKind}
use Rattle.ob0_scan.specs.declared.lexeme.LexemeKind.TheVariants as lexeme
use Rattle.ob0_scan.specs.LexemeClasses.{IsIdentifier, is_white_space}
use Rattle.ob0_scan.specs.LexemeEnds.{continues_symbol, continues_lexeme}
use Rattle.ob0_scan.proofs.Cuts.{nonempty}
use Rattle.ob0_edits_tokens.specs.Replacements.{MayReplaceIdentifier}

-- A byte that is neither `=` nor `*` continues no symbol.
not_joined : (s : Symbol) (b : ℕ) → (b == 61) ≡ false → (b == 42) ≡ false → continues_symbol s b ≡ false
not_joined symbol.Less b e f = e
not_joined symbol.Greater b e f = e
not_joined symbol.Colon b e f = e
not_joined symbol.LeftParen b e f = f
not_joined _ b e f = refl

-- A letter or digit differs from every byte that is neither.
not_this : (b c : ℕ) → is_ascii_alphanumeric c ≡ false → is_ascii_alphanumeric b ≡ true → (b == c) ≡ false
not_this b c other h = false_from_ne_true (b == c) (λ e. let clash : true ≡ false = sym h ∙ ap is_ascii_alphanumeric (eqb-true b c e) ∙ other in cc)

not_space : (b : ℕ) → is_ascii_alphanumeric b ≡ true → is_white_space b ≡ false
not_space b h = rw (not_this b 32 refl h, not_this b 9 refl h, not_this b 10 refl h, not_this b 13 refl h) refl

letter_goes_on : (b : ℕ) → IsTrue (is_ascii_alphabetic b) → is_ascii_alphanumeric b ≡ true
letter_goes_on b h = grind (arith, nat_tests)

-- A lexeme that ends before a letter ends before every letter or digit.
pub before_word : (b : ℕ) → is_ascii_alphanumeric b ≡ true → (kind : LexemeKind) (letter : ℕ) → IsTrue (is_ascii_alphabetic letter) → continues_lexeme kind letter ≡ false → continues_lexeme kind b ≡ false
before_word b h lexeme.WhiteSpace letter l e = not_space b h
before_word b h lexeme.Comment letter l e = refl
before_word b h (lexeme.Token (token.Symbol s)) letter l e = not_joined s b (not_this b 61 refl h) (not_this b 42 refl h)
before_word b h _ letter l e = let clash : true ≡ false = sym (letter_goes_on letter l) ∙ e in cc

-- Any lexeme ends before a `(`.
pub before_paren : (kind : LexemeKind) → continues_lexeme kind 40 ≡ false
before_paren (lexeme.Token (token.Symbol s)) = not_joined s 40 refl refl
before_paren _ = refl

-- An identifier may replace any identifier.
pub a_name : (new : List ℕ) → IsIdentifier new → MayReplaceIdentifier new (record { kind = token.Identifier; text = new } ∷ [])
a_name new name = record {
  lexemes = record { kind = lexeme.Token token.Identifier; text = new } ∷ [];
  whole = append-nil new;
  read = refl;
  some = nonempty (lexeme.Token token.Identifier) new name;
  front = before_word (get_or new 0 0) (letter_goes_on (get_or new 0 0) name.word.letter);
  apart = λ byte h. (record { belongs = name; ends = h }, tt);
}
