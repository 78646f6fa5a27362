-- Proves that the spans of tokens ascend. So two tokens are in the same order as their spans.
use Rattle.std.proofs.Common.{◌≡◌, ℕ, zero, suc, ◌-◌, ◌+◌, ◌<◌, ◌≤◌, List, [], ◌∷◌, ◌++◌, length, get_or, sym, ap, ◌∙◌, subst, arith, ⊎_elim}
use Rattle.std.specs.Cmp.{nat_cmp_is}
use Rattle.std.specs.Ordering.{nat_cmp}
use Rattle.std.specs.declared.cmp.Ordering.TheVariants.{Less, Equal, Greater}
use Rattle.std.proofs.Math.Nat.{min-le_right}
use Rattle.std.proofs.lemmas.Bool.{cases_lt}
use Rattle.std.proofs.lemmas.Option.{slice_get-get_or}
use Rattle.ob0_scan.specs.TextLexemes.{Lexeme}
use Rattle.ob0_scan.specs.TextWithTokens.{IsScan, TextWithTokens, span_with_length, tokens_of_one_lexeme, tokens_of_lexemes_from}
use Rattle.ob0_scan.specs.declared.lexeme.LexemeKind.{LexemeKind}
use Rattle.ob0_scan.specs.declared.lexeme.LexemeKind.TheVariants as lexeme
use Rattle.ob0_scan.specs.declared.lexeme.Span.{Span}
use Rattle.ob0_scan.specs.declared.lexeme.Token.{Token}
use Rattle.ob0_scan.specs.declared.lexeme.TokenKind.TheVariants as kind
use Rattle.ob0_scan.proofs.AtLexemes.{Full, full}
use Rattle.ob0_scope_table.specs.FaultsAtTokens.{clamped_token_index}
use Rattle.ob0_scope_table.specs.Spans.{TokensAreDisjoint, token_span, span_or_empty}

-- ---- the tokens of a text

apart_lower : (less from : ℕ) (ts : List Token) → less ≤ from → TokensAreDisjoint from ts → TokensAreDisjoint less ts
apart_lower less from [] low h = tt
apart_lower less from (t ∷ ts) low h = (omega (arith, low, h.0), h.1)

apart_one : (k : LexemeKind) (from len : ℕ) (ts : List Token) → 0 < len → TokensAreDisjoint (from + len) ts → TokensAreDisjoint from (tokens_of_one_lexeme k (span_with_length from len) ++ ts)
apart_one lexeme.WhiteSpace from len ts some h = apart_lower from (from + len) ts (omega arith) h
apart_one lexeme.Comment from len ts some h = apart_lower from (from + len) ts (omega arith) h
apart_one (lexeme.Token k) from len ts some h = (omega arith, (omega (arith, some), h))

apart_from : (from : ℕ) (ls : List Lexeme) → Full ls → TokensAreDisjoint from (tokens_of_lexemes_from from ls)
apart_from from [] h = tt
apart_from from (l ∷ ls) h = apart_one l.kind from (length l.text) (tokens_of_lexemes_from (from + length l.text) ls) h.0 (apart_from (from + length l.text) ls h.1)

pub scan_apart : (s : TextWithTokens) → IsScan s → TokensAreDisjoint 0 s.tokens
scan_apart s scan = subst (TokensAreDisjoint 0) (sym scan.tokens) (apart_from 0 scan.lexemes (full scan.lexemes [] scan.lexed.each))

-- A token begins at or after `from`, and has at least one byte.
pub token_bounds : (from : ℕ) (ts : List Token) (j : ℕ) (d : Token) → TokensAreDisjoint from ts → j < length ts → (from ≤ (get_or ts j d).span.start) × ((get_or ts j d).span.start < (get_or ts j d).span.end)
token_bounds from [] j d h less = absurd (omega (arith, less))
token_bounds from (t ∷ ts) zero d h less = (h.0, h.1.0)
token_bounds from (t ∷ ts) (suc j) d h less =
    let later = token_bounds t.span.end ts j d h.1.1 (omega (arith, less)) in
    (omega (arith, h.0, h.1.0, later.0), later.1)

-- A later token begins at or after the end of an earlier one.
pub tokens_follow : (from : ℕ) (ts : List Token) (i j : ℕ) (d : Token) → TokensAreDisjoint from ts → i < j → j < length ts → (get_or ts i d).span.end ≤ (get_or ts j d).span.start
tokens_follow from [] i j d h low less = absurd (omega (arith, less))
tokens_follow from (t ∷ ts) i zero d h low less = absurd (omega (arith, low))
tokens_follow from (t ∷ ts) zero (suc j) d h low less = (token_bounds t.span.end ts j d h.1.1 (omega (arith, less))).0
tokens_follow from (t ∷ ts) (suc i) (suc j) d h low less = tokens_follow t.span.end ts i j d h.1.1 (omega (arith, low)) (omega (arith, less))

-- ---- the order of tokens and of their spans

-- A number that rises from token to token has the order of the tokens.
same_order : (f : ℕ → ℕ) (last : ℕ) → ((i j : ℕ) → i < j → j ≤ last → f i < f j) → (i j : ℕ) → i ≤ last → j ≤ last → nat_cmp i j ≡ nat_cmp (f i) (f j)
same_order f last rises i j i_inside j_inside = ⊎_elim
    (λ less. sym (nat_cmp_is i j Less less) ∙ nat_cmp_is (f i) (f j) Less (rises i j less j_inside))
    (λ at_least. ⊎_elim
    (λ more. sym (nat_cmp_is i j Greater more) ∙ nat_cmp_is (f i) (f j) Greater (rises j i more i_inside))
    (λ at_most. let e : i ≡ j = omega (arith, at_least, at_most) in sym (nat_cmp_is i j Equal e) ∙ nat_cmp_is (f i) (f j) Equal (ap f e))
    (cases_lt j i))
    (cases_lt i j)

abbrev pub no_token : Token
no_token = record { kind = kind.Identifier; span = record { start = 0; end = 0 } }

module _ (source : TextWithTokens) (scan : IsScan source) where
  abbrev count : ℕ
  count = length source.tokens

  pub span_there : (i : ℕ) → i < count → token_span source i ≡ (get_or source.tokens i no_token).span
  span_there i less = ap span_or_empty (slice_get-get_or source.tokens i no_token less)

  start_rises : (i j : ℕ) → i < j → j ≤ count - 1 → (token_span source i).start < (token_span source j).start
  start_rises i j low high =
      let less : j < count = omega (arith, low, high) in
      let apart = scan_apart source scan in
      let a = ap (λ (v : Span). v.start) (span_there i (omega (arith, low, less))) in
      let b = ap (λ (v : Span). v.start) (span_there j less) in
      let bounds = token_bounds 0 source.tokens i no_token apart (omega (arith, low, less)) in
      let follows = tokens_follow 0 source.tokens i j no_token apart low less in
      omega (arith, a, b, bounds.1, follows)

  end_rises : (i j : ℕ) → i < j → j ≤ count - 1 → (token_span source i).end < (token_span source j).end
  end_rises i j low high =
      let less : j < count = omega (arith, low, high) in
      let apart = scan_apart source scan in
      let a = ap (λ (v : Span). v.end) (span_there i (omega (arith, low, less))) in
      let b = ap (λ (v : Span). v.end) (span_there j less) in
      let bounds = token_bounds 0 source.tokens j no_token apart less in
      let follows = tokens_follow 0 source.tokens i j no_token apart low less in
      omega (arith, a, b, bounds.1, follows)

  pub start_order : (i j : ℕ) → nat_cmp (clamped_token_index count i) (clamped_token_index count j) ≡ nat_cmp (token_span source (clamped_token_index count i)).start (token_span source (clamped_token_index count j)).start
  start_order i j = same_order (λ k. (token_span source k).start) (count - 1) start_rises (clamped_token_index count i) (clamped_token_index count j) (min-le_right i (count - 1)) (min-le_right j (count - 1))

  pub end_order : (i j : ℕ) → nat_cmp (clamped_token_index count i) (clamped_token_index count j) ≡ nat_cmp (token_span source (clamped_token_index count i)).end (token_span source (clamped_token_index count j)).end
  end_order i j = same_order (λ k. (token_span source k).end) (count - 1) end_rises (clamped_token_index count i) (clamped_token_index count j) (min-le_right i (count - 1)) (min-le_right j (count - 1))
