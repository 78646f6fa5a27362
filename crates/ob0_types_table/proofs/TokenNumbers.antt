-- The values of integer tokens in a text have at most 31 bits.
use Rattle.std.proofs.Common.{◌≡◌, ℕ, zero, suc, ◌+◌, ◌<◌, ◌≤◌, List, [], ◌∷◌, ◌++◌, length, get_or, sym, ap, subst, arith}
use Rattle.std.proofs.lemmas.Option.{slice_get-get_or, slice_get_past}
use Rattle.ob0_scan.specs.declared.lexeme.Token.{Token}
use Rattle.ob0_scan.specs.declared.lexeme.Span.{Span}
use Rattle.ob0_scan.specs.declared.lexeme.TokenKind.{TokenKind}
use Rattle.ob0_scan.specs.declared.lexeme.TokenKind.TheVariants as token
use Rattle.ob0_scan.specs.declared.lexeme.LexemeKind.{LexemeKind}
use Rattle.ob0_scan.specs.declared.lexeme.LexemeKind.TheVariants as lexeme
use Rattle.ob0_scan.specs.LexemeClasses.{IsLexemeOfKind}
use Rattle.ob0_scan.specs.TextLexemes.{AreLeadingLexemes, Lexeme}
use Rattle.ob0_scan.specs.TextWithTokens.{IsScan, TextWithTokens, span_with_length, tokens_of_one_lexeme, tokens_of_lexemes_from}
use Rattle.ob0_tree.specs.TokenIndexLeaves.{token_value_at, token_value_or_zero, integer_value_or_zero}

pub token_value_at-read : (s : TextWithTokens) (i : ℕ) (d : Token) → i < length s.tokens → token_value_at s i ≡ integer_value_or_zero (get_or s.tokens i d).kind
token_value_at-read s i d less = ap token_value_or_zero (slice_get-get_or s.tokens i d less)

pub token_value_at-past : (s : TextWithTokens) (i : ℕ) → length s.tokens ≤ i → token_value_at s i ≡ 0
token_value_at-past s i past = ap token_value_or_zero (slice_get_past s.tokens i past)

small_kind : (kind : TokenKind) (text : List ℕ) → IsLexemeOfKind (lexeme.Token kind) text → integer_value_or_zero kind ≤ 2147483647
small_kind token.Identifier text h = omega arith
small_kind (token.ReservedWord word) text h = omega arith
small_kind (token.Integer value) text h = h.fits
small_kind (token.Symbol symbol) text h = omega arith

small_then : (kind : LexemeKind) (text : List ℕ) (span : Span) (rest : List Token) (d : Token) → IsLexemeOfKind kind text → ((i : ℕ) → i < length rest → integer_value_or_zero (get_or rest i d).kind ≤ 2147483647)
    → (i : ℕ) → i < length (tokens_of_one_lexeme kind span ++ rest) → integer_value_or_zero (get_or (tokens_of_one_lexeme kind span ++ rest) i d).kind ≤ 2147483647
small_then lexeme.WhiteSpace text span rest d h small i less = small i less
small_then lexeme.Comment text span rest d h small i less = small i less
small_then (lexeme.Token kind) text span rest d h small zero less = small_kind kind text h
small_then (lexeme.Token kind) text span rest d h small (suc i) less = small i (omega arith)

small_from : (start : ℕ) (ls : List Lexeme) (after : List ℕ) (d : Token) → AreLeadingLexemes ls after → (i : ℕ) → i < length (tokens_of_lexemes_from start ls) → integer_value_or_zero (get_or (tokens_of_lexemes_from start ls) i d).kind ≤ 2147483647
small_from start [] after d h i less = absurd (omega arith)
small_from start (l ∷ ls) after d h i less =
    small_then l.kind l.text (span_with_length start (length l.text)) (tokens_of_lexemes_from (start + length l.text) ls) d h.0.belongs (small_from (start + length l.text) ls after d h.1) i less

pub small_number : (s : TextWithTokens) → IsScan s → (i : ℕ) (d : Token) → i < length s.tokens → integer_value_or_zero (get_or s.tokens i d).kind ≤ 2147483647
small_number s scan i d less =
    let P : List Token → Type 0 = λ ts. (i : ℕ) → i < length ts → integer_value_or_zero (get_or ts i d).kind ≤ 2147483647 in
    subst P (sym scan.tokens) (small_from 0 scan.lexemes [] d scan.lexed.each) i less
