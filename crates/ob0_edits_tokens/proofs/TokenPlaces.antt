-- Proves which lexeme of a text is the token with a given index.
use Rattle.std.proofs.Common.{◌≡◌, ℕ, zero, suc, ◌+◌, ◌-◌, ◌<◌, ◌≤◌, List, [], ◌∷◌, ◌++◌, length, drop, refl, sym, ap, ◌∙◌, subst, subst₂, arith, add-zero, length-append, length-drop}
use Rattle.std.specs.Str.{IsUtf8}
use Rattle.std.proofs.lemmas.List.{drop-drop, drop_at, get_or-drop}
use Rattle.ob0_scan.specs.declared.lexeme.TokenKind.{TokenKind}
use Rattle.ob0_scan.specs.declared.lexeme.LexemeKind.{LexemeKind}
use Rattle.ob0_scan.specs.declared.lexeme.LexemeKind.TheVariants as lexeme
use Rattle.ob0_scan.specs.declared.lexeme.Span.{Span}
use Rattle.ob0_scan.specs.declared.lexeme.Token.{Token}
use Rattle.ob0_scan.specs.TextLexemes.{Lexeme, text_of_lexemes}
use Rattle.ob0_scan.specs.TextWithTokens.{words_of_one_lexeme, words_of_lexemes, span_with_length, tokens_of_one_lexeme, tokens_of_lexemes_from}
use Rattle.ob0_edits_tokens.specs.Replacements.{token_at_or_empty, token_span_or_empty}
use Rattle.ob0_edits_tokens.proofs.Borders.{IsRest, next_rest}

-- States that lexemes are split at the token that n tokens precede.
record Split (ls : List Lexeme) (n : ℕ) : Type 0 where
  before : List Lexeme
  here : Lexeme
  after : List Lexeme
  kind : TokenKind
  whole : ls ≡ before ++ (here ∷ after)
  is_token : here.kind ≡ lexeme.Token kind
  count : length (words_of_lexemes before) ≡ n

split : (ls : List Lexeme) (n : ℕ) → n < length (words_of_lexemes ls) → Split ls n
split [] n less = absurd (omega (arith, less))
split (l ∷ ls) n less = by_kind l.kind refl n (omega (arith, less, length-append (words_of_one_lexeme l l.kind) (words_of_lexemes ls))) (λ m h. split ls m h)
  where
    further : (n m : ℕ) → length (words_of_one_lexeme l l.kind) + m ≡ n → Split ls m → Split (l ∷ ls) n
    further n m e s = record {
      before = l ∷ s.before;
      here = s.here;
      after = s.after;
      kind = s.kind;
      whole = ap (λ t. l ∷ t) s.whole;
      is_token = s.is_token;
      count = length-append (words_of_one_lexeme l l.kind) (words_of_lexemes s.before) ∙ omega (arith, s.count, e);
    }

    by_kind : (k : LexemeKind) → l.kind ≡ k → (n : ℕ) → n < length (words_of_one_lexeme l l.kind) + length (words_of_lexemes ls) → ((m : ℕ) → m < length (words_of_lexemes ls) → Split ls m) → Split (l ∷ ls) n
    by_kind lexeme.WhiteSpace f n less more = let none : length (words_of_one_lexeme l l.kind) ≡ 0 = ap (λ k. length (words_of_one_lexeme l k)) f in further n n (omega (arith, none)) (more n (omega (arith, none, less)))
    by_kind lexeme.Comment f n less more = let none : length (words_of_one_lexeme l l.kind) ≡ 0 = ap (λ k. length (words_of_one_lexeme l k)) f in further n n (omega (arith, none)) (more n (omega (arith, none, less)))
    by_kind (lexeme.Token kind) f zero less more = record { before = []; here = l; after = ls; kind = kind; whole = refl; is_token = f; count = refl }
    by_kind (lexeme.Token kind) f (suc n) less more = let one : length (words_of_one_lexeme l l.kind) ≡ 1 = ap (λ k. length (words_of_one_lexeme l k)) f in further (suc n) n (omega (arith, one)) (more n (omega (arith, one, less)))

as_many : (l : Lexeme) (kind : LexemeKind) (span : Span) → length (tokens_of_one_lexeme kind span) ≡ length (words_of_one_lexeme l kind)
as_many l lexeme.WhiteSpace span = refl
as_many l lexeme.Comment span = refl
as_many l (lexeme.Token kind) span = refl

token_count : (at : ℕ) (ls : List Lexeme) → length (tokens_of_lexemes_from at ls) ≡ length (words_of_lexemes ls)
token_count at [] = refl
token_count at (l ∷ ls) =
    let here = tokens_of_one_lexeme l.kind (span_with_length at (length l.text)) in
    let later = tokens_of_lexemes_from (at + length l.text) ls in
    omega (arith, length-append here later, length-append (words_of_one_lexeme l l.kind) (words_of_lexemes ls), as_many l l.kind (span_with_length at (length l.text)), token_count (at + length l.text) ls)

module _ (text : List ℕ) (u : IsUtf8 text) (tokens : List Token) where
  -- States that lexemes are the text starting at an offset, with the tokens starting at an index.
  pub record AreAt (at k : ℕ) (ls : List Lexeme) : Type 0 where
    pub rest : IsRest text at ls
    pub tokens_are : drop k tokens ≡ tokens_of_lexemes_from at ls

  next : (at k : ℕ) (l : Lexeme) (ls : List Lexeme) → AreAt at k (l ∷ ls) → AreAt (at + length l.text) (k + length (words_of_one_lexeme l l.kind)) ls
  next at k l ls r =
      let n : ℕ = length (words_of_one_lexeme l l.kind) in
      let here : List Token = tokens_of_one_lexeme l.kind (span_with_length at (length l.text)) in
      record {
        rest = next_rest text u at l ls r.rest;
        tokens_are = sym (drop-drop n k tokens) ∙ ap (drop n) r.tokens_are ∙ drop_at here (tokens_of_lexemes_from (at + length l.text) ls) n (as_many l l.kind (span_with_length at (length l.text)));
      }

  pub further_on : (xs ys : List Lexeme) (at k n m : ℕ) → AreAt at k (xs ++ ys) → at + length (text_of_lexemes xs) ≡ n → k + length (words_of_lexemes xs) ≡ m → AreAt n m ys
  further_on [] ys at k n m r e f = subst₂ (λ a b. AreAt a b ys) (sym (add-zero at) ∙ e) (sym (add-zero k) ∙ f) r
  further_on (x ∷ xs) ys at k n m r e f =
      further_on xs ys (at + length x.text) (k + length (words_of_one_lexeme x x.kind)) n m (next at k x (xs ++ ys) r) (omega (arith, e, length-append x.text (text_of_lexemes xs))) (omega (arith, f, length-append (words_of_one_lexeme x x.kind) (words_of_lexemes xs)))

  pub token_here : (at p : ℕ) (l : Lexeme) (ls : List Lexeme) (kind : TokenKind) → AreAt at p (l ∷ ls) → l.kind ≡ lexeme.Token kind → token_at_or_empty tokens p ≡ record { kind = kind; span = span_with_length at (length l.text) }
  token_here at p l ls kind r is =
      ap (token_at_or_empty tokens) (sym (add-zero p)) ∙ sym (get_or-drop p tokens 0 _)
      ∙ ap (λ ts. token_at_or_empty ts 0) (r.tokens_are ∙ ap (λ k. tokens_of_one_lexeme k (span_with_length at (length l.text)) ++ tokens_of_lexemes_from (at + length l.text) ls) is)

  -- States at which lexeme the token with the index p is.
  pub record HasToken (at k : ℕ) (ls : List Lexeme) (p : ℕ) : Type 0 where
    pub before : List Lexeme
    pub here : Lexeme
    pub after : List Lexeme
    pub start : ℕ
    pub end : ℕ
    pub whole : ls ≡ before ++ (here ∷ after)
    pub count : k + length (words_of_lexemes before) ≡ p
    pub start_is : at + length (text_of_lexemes before) ≡ start
    pub end_is : start + length here.text ≡ end
    pub from : AreAt start p (here ∷ after)
    pub to : AreAt end (suc p) after
    pub kind : here.kind ≡ lexeme.Token (token_at_or_empty tokens p).kind
    pub start_of : (token_span_or_empty tokens p).start ≡ start
    pub end_of : (token_span_or_empty tokens p).end ≡ end

  pub token_in : (at k : ℕ) (ls : List Lexeme) (p : ℕ) → AreAt at k ls → k ≤ p → p < length tokens → HasToken at k ls p
  token_in at k ls p r low inside =
      let s = split ls (p - k) (omega (arith, low, inside, length-drop k tokens, ap length r.tokens_are, token_count at ls)) in
      let start : ℕ = at + length (text_of_lexemes s.before) in
      let count : k + length (words_of_lexemes s.before) ≡ p = omega (arith, s.count, low) in
      let from : AreAt start p (s.here ∷ s.after) = further_on s.before (s.here ∷ s.after) at k start p (subst (AreAt at k) s.whole r) refl count in
      let is : token_at_or_empty tokens p ≡ record { kind = s.kind; span = span_with_length start (length s.here.text) } = token_here start p s.here s.after s.kind from s.is_token in
      let one : p + length (words_of_one_lexeme s.here s.here.kind) ≡ suc p = omega (arith, ap (λ k. length (words_of_one_lexeme s.here k)) s.is_token) in
      record {
        before = s.before;
        here = s.here;
        after = s.after;
        start = start;
        end = start + length s.here.text;
        whole = s.whole;
        count = count;
        start_is = refl;
        end_is = refl;
        from = from;
        to = subst (λ n. AreAt (start + length s.here.text) n s.after) one (next start p s.here s.after from);
        kind = s.is_token ∙ ap lexeme.Token (sym (ap (λ (t : Token). t.kind) is));
        start_of = ap (λ (t : Token). t.span.start) is;
        end_of = ap (λ (t : Token). t.span.end) is;
      }
