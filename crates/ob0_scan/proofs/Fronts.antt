-- Splits off the lexemes that end before a place, except white space after the last token or
-- comment. Proves at which offset the last of these lexemes ends.
use Rattle.std.proofs.Common.{◌≡◌, ◌≢◌, ℕ, ◌+◌, ◌-◌, ◌<◌, ◌≤◌, List, [], ◌∷◌, ◌++◌, length, max, refl, sym, ap, ap₂, ◌∙◌, subst, arith, ◌⊎◌, inl, inr, ⊎_elim, append-nil, length-append, add-zero, ltb, Some}
use Rattle.std.specs.List.{All, prefix_len, slice_get}
use Rattle.std.proofs.lemmas.List.{length_push}
use Rattle.std.proofs.lemmas.List.Elements.{All-weaker}
use Rattle.std.proofs.lemmas.Option.{slice_get-get_or}
use Rattle.std.proofs.lemmas.Bool.{cases_lt}
use Rattle.ob0_scan.specs.declared.lexeme.LexemeKind.{LexemeKind}
use Rattle.ob0_scan.specs.declared.lexeme.LexemeKind.TheVariants as lexeme
use Rattle.ob0_scan.specs.declared.lexeme.Span.{Span}
use Rattle.ob0_scan.specs.declared.lexeme.Token.{Token}
use Rattle.ob0_scan.specs.TextLexemes.{Lexeme, text_of_lexemes}
use Rattle.ob0_scan.specs.TextWithTokens.{span_with_length, tokens_of_one_lexeme, comments_of_one_lexeme, tokens_of_lexemes_from, comments_of_lexemes_from}
use Rattle.ob0_scan.specs.RescanState.{token_end_or_zero, comment_end_or_zero, end_of_last_lexeme}
use Rattle.ob0_scan.proofs.Cuts.{joined_push, tokens_push, comments_push}
use Rattle.ob0_scan.proofs.AtLexemes.{of_tokens, of_comments, Full, full_parts, Lies, lies, none_end}

space_or_not : (k : LexemeKind) → (k ≡ lexeme.WhiteSpace) ⊎ (k ≢ lexeme.WhiteSpace)
space_or_not lexeme.WhiteSpace = inl refl
space_or_not lexeme.Comment = inr (λ e. cc)
space_or_not (lexeme.Token k) = inr (λ e. cc)

-- Holds if the list isn't empty and its last lexeme isn't white space.
pub record Last (ls : List Lexeme) : Type 0 where
  pub init : List Lexeme
  pub last : Lexeme
  pub are : ls ≡ init ++ last ∷ []
  pub black : last.kind ≢ lexeme.WhiteSpace

pub record Front (place s : ℕ) (ls : List Lexeme) : Type 0 where
  pub front : List Lexeme
  pub back : List Lexeme
  pub at : ℕ
  pub split : ls ≡ front ++ back
  pub at_is : s + length (text_of_lexemes front) ≡ at
  pub near : 0 < length front → at < place
  pub shape : (front ≡ []) ⊎ Last front
  pub tokens_done : prefix_len (λ (t : Token). ltb t.span.end place) (tokens_of_lexemes_from at back) ≡ 0
  pub comments_done : prefix_len (λ (c : Span). ltb c.end place) (comments_of_lexemes_from at back) ≡ 0

module _ (place s : ℕ) (l : Lexeme) (ls : List Lexeme) where
  stop : Full (l ∷ ls) → place ≤ s + length l.text → Front place s (l ∷ ls)
  stop f far = record {
    front = [];
    back = l ∷ ls;
    at = s;
    split = refl;
    at_is = add-zero s;
    near = λ h. absurd (omega (arith, h));
    shape = inl refl;
    tokens_done = none_end of_tokens place s l ls f far;
    comments_done = none_end of_comments place s l ls f far;
  }

  no_bytes : (r : Front place (s + length l.text) ls) → r.front ≡ [] → s + length l.text ≡ r.at
  no_bytes r e = let none : length (text_of_lexemes r.front) ≡ 0 = ap (λ t. length (text_of_lexemes t)) e in omega (arith, r.at_is, none)

  -- If the front has no lexeme, white space in front leaves it empty.
  blank : (r : Front place (s + length l.text) ls) → r.front ≡ [] → l.kind ≡ lexeme.WhiteSpace → Front place s (l ∷ ls)
  blank r e white =
      let rest : ls ≡ r.back = r.split ∙ ap (λ t. t ++ r.back) e in
      record {
        front = [];
        back = l ∷ ls;
        at = s;
        split = refl;
        at_is = add-zero s;
        near = λ h. absurd (omega (arith, h));
        shape = inl refl;
        tokens_done = ap (λ k. prefix_len (λ (t : Token). ltb t.span.end place) (tokens_of_one_lexeme k (span_with_length s (length l.text)) ++ tokens_of_lexemes_from (s + length l.text) ls)) white
            ∙ ap₂ (λ n t. prefix_len (λ (t : Token). ltb t.span.end place) (tokens_of_lexemes_from n t)) (no_bytes r e) rest ∙ r.tokens_done;
        comments_done = ap (λ k. prefix_len (λ (c : Span). ltb c.end place) (comments_of_one_lexeme k (span_with_length s (length l.text)) ++ comments_of_lexemes_from (s + length l.text) ls)) white
            ∙ ap₂ (λ n t. prefix_len (λ (c : Span). ltb c.end place) (comments_of_lexemes_from n t)) (no_bytes r e) rest ∙ r.comments_done;
      }

  longer : s + length l.text < place → (r : Front place (s + length l.text) ls) → Last (l ∷ r.front) → Front place s (l ∷ ls)
  longer close r last = record {
    front = l ∷ r.front;
    back = r.back;
    at = r.at;
    split = ap (λ t. l ∷ t) r.split;
    at_is = omega (arith, length-append l.text (text_of_lexemes r.front), r.at_is);
    near = λ _. ⊎_elim
        (λ none. subst (λ n. n < place) (no_bytes r none) close)
        (λ some. r.near (let long : length r.front ≡ length some.init + 1 = ap length some.are ∙ length_push some.init some.last in omega arith))
        r.shape;
    shape = inr last;
    tokens_done = r.tokens_done;
    comments_done = r.comments_done;
  }

  keep : s + length l.text < place → Front place (s + length l.text) ls → Front place s (l ∷ ls)
  keep close r = ⊎_elim
      (λ empty. ⊎_elim
      (λ white. blank r empty white)
      (λ black. longer close r (record { init = []; last = l; are = ap (λ t. l ∷ t) empty; black = black }))
      (space_or_not l.kind))
      (λ last. longer close r (record { init = l ∷ last.init; last = last.last; are = ap (λ t. l ∷ t) last.are; black = last.black }))
      r.shape

pub find_front : (place s : ℕ) (ls : List Lexeme) → Full ls → Front place s ls
find_front place s [] h = record { front = []; back = []; at = s; split = refl; at_is = add-zero s; near = λ h. absurd (omega (arith, h)); shape = inl refl; tokens_done = refl; comments_done = refl }
find_front place s (l ∷ ls) h = ⊎_elim
    (λ close. keep place s l ls close (find_front place (s + length l.text) ls h.1))
    (λ far. stop place s l ls h far)
    (cases_lt (s + length l.text) place)

seam : {X : Type 0} (xs : List X) (x : X) → slice_get (xs ++ x ∷ []) (length xs) ≡ Some x
seam [] x = refl
seam (y ∷ ys) x = seam ys x

last_of : {X : Type 0} (xs : List X) (x : X) → slice_get (xs ++ x ∷ []) (length (xs ++ x ∷ []) - 1) ≡ Some x
last_of xs x =
    let place : length (xs ++ x ∷ []) - 1 ≡ length xs = omega (arith, length_push xs x) in
    ap (slice_get (xs ++ x ∷ [])) place ∙ seam xs x

tokens_low : (ts : List Token) (n : ℕ) → All (λ (t : Token). t.span.end ≤ n) ts → token_end_or_zero (slice_get ts (length ts - 1)) ≤ n
tokens_low [] n h = omega arith
tokens_low (t ∷ ts) n h =
    let inside : length (t ∷ ts) - 1 < length (t ∷ ts) = omega arith in
    subst (λ o. token_end_or_zero o ≤ n) (sym (slice_get-get_or (t ∷ ts) (length (t ∷ ts) - 1) t inside)) (h (length (t ∷ ts) - 1) t inside)

comments_low : (cs : List Span) (n : ℕ) → All (λ (c : Span). c.end ≤ n) cs → comment_end_or_zero (slice_get cs (length cs - 1)) ≤ n
comments_low [] n h = omega arith
comments_low (c ∷ cs) n h =
    let inside : length (c ∷ cs) - 1 < length (c ∷ cs) = omega arith in
    subst (λ o. comment_end_or_zero o ≤ n) (sym (slice_get-get_or (c ∷ cs) (length (c ∷ cs) - 1) c inside)) (h (length (c ∷ cs) - 1) c inside)

max_right : (a b : ℕ) → a ≤ b → max a b ≡ b
max_right a b h = omega arith

max_left : (a b : ℕ) → b ≤ a → max a b ≡ a
max_left a b h = omega arith

one_further : (k : LexemeKind) (ts : List Token) (cs : List Span) (n len : ℕ) → k ≢ lexeme.WhiteSpace → All (λ (t : Token). t.span.end ≤ n) ts → All (λ (c : Span). c.end ≤ n) cs → end_of_last_lexeme (ts ++ tokens_of_one_lexeme k (span_with_length n len)) (cs ++ comments_of_one_lexeme k (span_with_length n len)) ≡ n + len
one_further lexeme.WhiteSpace ts cs n len black ht hc = absurd (black refl)
one_further lexeme.Comment ts cs n len black ht hc =
    let low = tokens_low ts n ht in
    ap₂ (λ (us : List Token) o. max (token_end_or_zero (slice_get us (length us - 1))) (comment_end_or_zero o)) (append-nil ts) (last_of cs (span_with_length n len))
    ∙ max_right (token_end_or_zero (slice_get ts (length ts - 1))) (n + len) (omega arith)
one_further (lexeme.Token k) ts cs n len black ht hc =
    let low = comments_low cs n hc in
    ap₂ (λ o (us : List Span). max (token_end_or_zero o) (comment_end_or_zero (slice_get us (length us - 1)))) (last_of ts (record { kind = k; span = span_with_length n len })) (append-nil cs)
    ∙ max_left (n + len) (comment_end_or_zero (slice_get cs (length cs - 1))) (omega arith)

pub front_end : (ls : List Lexeme) → Full ls → (ls ≡ []) ⊎ Last ls → end_of_last_lexeme (tokens_of_lexemes_from 0 ls) (comments_of_lexemes_from 0 ls) ≡ length (text_of_lexemes ls)
front_end ls f (inl e) = ap (λ t. end_of_last_lexeme (tokens_of_lexemes_from 0 t) (comments_of_lexemes_from 0 t)) e ∙ sym (ap (λ t. length (text_of_lexemes t)) e)
front_end ls f (inr w) =
    let init = w.init in
    let l = w.last in
    let n : ℕ = 0 + length (text_of_lexemes init) in
    let parts = full_parts init (l ∷ []) (subst Full w.are f) in
    let ts = tokens_of_lexemes_from 0 init in
    let cs = comments_of_lexemes_from 0 init in
    let low_tokens : All (λ (t : Token). t.span.end ≤ n) ts = All-weaker (λ (t : Token). Lies 0 n t.span) (λ (t : Token). t.span.end ≤ n) (λ t h. h.ends) ts (lies of_tokens 0 init parts.0) in
    let low_comments : All (λ (c : Span). c.end ≤ n) cs = All-weaker (λ (c : Span). Lies 0 n c) (λ (c : Span). c.end ≤ n) (λ c h. h.ends) cs (lies of_comments 0 init parts.0) in
    let long : length (text_of_lexemes ls) ≡ n + length l.text = ap (λ t. length (text_of_lexemes t)) w.are ∙ ap length (joined_push init l) ∙ omega (arith, length-append (text_of_lexemes init) l.text) in
    ap (λ t. end_of_last_lexeme (tokens_of_lexemes_from 0 t) (comments_of_lexemes_from 0 t)) w.are
    ∙ ap₂ end_of_last_lexeme (tokens_push 0 init l) (comments_push 0 init l)
    ∙ one_further l.kind ts cs n (length l.text) w.black low_tokens low_comments
    ∙ sym long
