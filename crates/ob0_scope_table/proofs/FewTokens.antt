-- Proves that a text has no more tokens than bytes.
use Rattle.std.proofs.Common.{◌≡◌, ℕ, ◌+◌, ◌≤◌, List, [], ◌∷◌, length, ap, arith, length-append}
use Rattle.ob0_scan.specs.declared.lexeme.LexemeKind.{LexemeKind}
use Rattle.ob0_scan.specs.declared.lexeme.LexemeKind.TheVariants as lexeme
use Rattle.ob0_scan.specs.declared.lexeme.Span.{Span}
use Rattle.ob0_scan.specs.declared.lexeme.Token.{Token}
use Rattle.ob0_scan.specs.TextLexemes.{Lexeme, text_of_lexemes}
use Rattle.ob0_scan.specs.TextWithTokens.{IsScan, TextWithTokens, max_text_length, span_with_length, tokens_of_one_lexeme, tokens_of_lexemes_from}
use Rattle.ob0_scan.proofs.AtLexemes.{Full, full}

one_token : (k : LexemeKind) (place : Span) → length (tokens_of_one_lexeme k place) ≤ 1
one_token lexeme.WhiteSpace place = omega arith
one_token lexeme.Comment place = omega arith
one_token (lexeme.Token k) place = omega arith

few_from : (from : ℕ) (ls : List Lexeme) → Full ls → length (tokens_of_lexemes_from from ls) ≤ length (text_of_lexemes ls)
few_from from [] h = omega arith
few_from from (l ∷ ls) h =
    let place = span_with_length from (length l.text) in
    let rest = tokens_of_lexemes_from (from + length l.text) ls in
    let some = h.0 in
    let one = one_token l.kind place in
    let more = few_from (from + length l.text) ls h.1 in
    let tokens = length-append (tokens_of_one_lexeme l.kind place) rest in
    let bytes = length-append l.text (text_of_lexemes ls) in
    omega (arith, some, one, more, tokens, bytes)

pub few_tokens : (s : TextWithTokens) → IsScan s → length s.tokens ≤ max_text_length
few_tokens s scan =
    let few = few_from 0 scan.lexemes (full scan.lexemes [] scan.lexed.each) in
    let tokens : length s.tokens ≡ length (tokens_of_lexemes_from 0 scan.lexemes) = ap (λ (ts : List Token). length ts) scan.tokens in
    let bytes : length (text_of_lexemes scan.lexemes) ≡ length s.text = ap (λ (bs : List ℕ). length bs) scan.lexed.whole in
    let short = scan.short in
    omega (arith, few, tokens, bytes, short)
