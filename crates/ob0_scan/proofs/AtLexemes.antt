-- Proves facts about the places of tokens and comments in a list of lexemes. Tokens and comments
-- have these facts in common, so each is proved once for both (`AtLexemes`).
use Rattle.std.proofs.Common.{◌≡◌, ◌≢◌, ℕ, suc, ◌+◌, ◌-◌, ◌<◌, ◌≤◌, Bool, true, false, List, [], ◌∷◌, ◌++◌, length, map, take, drop, refl, sym, ap, ap₂, ◌∙◌, subst, arith, ◌⊎◌, inl, inr, ⊎_elim, append_assoc, length-append, add-zero, ltb, eqb, eqb-true, eq-eqb}
use Rattle.std.specs.List.{All, prefix_len}
use Rattle.std.proofs.Math.Seq.{drop-append_seam, take-append_seam}
use Rattle.std.proofs.lemmas.List.{map-append}
use Rattle.std.proofs.lemmas.List.Elements.{All-nil, All-cons, All-head, All-tail, All-same, All-append, All-weaker}
use Rattle.std.proofs.lemmas.Bool.{cases_lt, cond-true, cond-false, lt-ltb, ltb-true, false_from_ne_true}
use Rattle.ob0_scan.specs.declared.lexeme.LexemeKind.{LexemeKind}
use Rattle.ob0_scan.specs.declared.lexeme.LexemeKind.TheVariants as lexeme
use Rattle.ob0_scan.specs.declared.lexeme.Span.{Span}
use Rattle.ob0_scan.specs.declared.lexeme.Token.{Token}
use Rattle.ob0_scan.specs.TextLexemes.{Lexeme, text_of_lexemes, AreLeadingLexemes}
use Rattle.ob0_scan.specs.TextWithTokens.{span_with_length, tokens_of_one_lexeme, comments_of_one_lexeme, tokens_of_lexemes_from, comments_of_lexemes_from}
use Rattle.ob0_scan.specs.ReusedLexemes.{span_after_shift, token_after_shift}
use Rattle.ob0_scan.proofs.Cuts.{nonempty}

-- A kind of item that lexemes have, such as tokens or comments. Each lexeme has at most one, at the
-- lexeme's place.
pub record AtLexemes (X : Type 0) : Type 0 where
  pub span : X → Span
  pub head : ℕ → Lexeme → List X
  pub all : ℕ → List Lexeme → List X
  pub none : (s : ℕ) → all s [] ≡ []
  pub step : (s : ℕ) (l : Lexeme) (ls : List Lexeme) → all s (l ∷ ls) ≡ head s l ++ all (s + length l.text) ls
  pub one : (s : ℕ) (l : Lexeme) → (head s l ≡ []) ⊎ ((x : X) × (head s l ≡ x ∷ []) × (span x ≡ span_with_length s (length l.text)))

pub token_one : (k : LexemeKind) (place : Span) → (tokens_of_one_lexeme k place ≡ []) ⊎ ((x : Token) × (tokens_of_one_lexeme k place ≡ x ∷ []) × (x.span ≡ place))
token_one lexeme.WhiteSpace place = inl refl
token_one lexeme.Comment place = inl refl
token_one (lexeme.Token k) place = inr (record { kind = k; span = place }, refl, refl)

pub comment_one : (k : LexemeKind) (place : Span) → (comments_of_one_lexeme k place ≡ []) ⊎ ((x : Span) × (comments_of_one_lexeme k place ≡ x ∷ []) × (x ≡ place))
comment_one lexeme.WhiteSpace place = inl refl
comment_one lexeme.Comment place = inr (place, refl, refl)
comment_one (lexeme.Token k) place = inl refl

abbrev pub of_tokens : AtLexemes Token
of_tokens = record {
  span = λ (t : Token). t.span;
  head = λ s l. tokens_of_one_lexeme l.kind (span_with_length s (length l.text));
  all = tokens_of_lexemes_from;
  none = λ s. refl;
  step = λ s l ls. refl;
  one = λ s l. token_one l.kind (span_with_length s (length l.text));
}

abbrev pub of_comments : AtLexemes Span
of_comments = record {
  span = λ (c : Span). c;
  head = λ s l. comments_of_one_lexeme l.kind (span_with_length s (length l.text));
  all = comments_of_lexemes_from;
  none = λ s. refl;
  step = λ s l ls. refl;
  one = λ s l. comment_one l.kind (span_with_length s (length l.text));
}

-- Holds if each lexeme has at least one byte.
abbrev pub Full : List Lexeme → Type 0
Full [] = Unit {0}
Full (l ∷ ls) = (0 < length l.text) × Full ls

pub full : (ls : List Lexeme) (after : List ℕ) → AreLeadingLexemes ls after → Full ls
full [] after f = tt
full (l ∷ ls) after f = (nonempty l.kind l.text f.0.belongs, full ls after f.1)

pub full_parts : (xs ys : List Lexeme) → Full (xs ++ ys) → Full xs × Full ys
full_parts [] ys h = (tt, h)
full_parts (x ∷ xs) ys h = let more = full_parts xs ys h.1 in ((h.0, more.0), more.1)

-- Holds if the span isn't empty and lies between the places `low` and `high`.
pub record Lies (low high : ℕ) (s : Span) : Type 0 where
  pub starts : low ≤ s.start
  pub some : s.start < s.end
  pub ends : s.end ≤ high

pub head_all : {X : Type 0} (g : AtLexemes X) (P : X → Type 0) (s : ℕ) (l : Lexeme) → ((x : X) → g.span x ≡ span_with_length s (length l.text) → P x) → All P (g.head s l)
head_all g P s l h = ⊎_elim
    (λ nothing. All-same P (g.head s l) [] nothing (All-nil P))
    (λ one. All-same P (g.head s l) (one.0 ∷ []) one.1 (All-cons P one.0 [] (h one.0 one.2) (All-nil P)))
    (g.one s l)

pub lies : {X : Type 0} (g : AtLexemes X) (s : ℕ) (ls : List Lexeme) → Full ls → All (λ x. Lies s (s + length (text_of_lexemes ls)) (g.span x)) (g.all s ls)
lies g s [] h = All-same (λ x. Lies s (s + length (text_of_lexemes [])) (g.span x)) (g.all s []) [] (g.none s) (All-nil (λ x. Lies s (s + length (text_of_lexemes [])) (g.span x)))
lies {X} g s (l ∷ ls) h =
    let long : length (text_of_lexemes (l ∷ ls)) ≡ length l.text + length (text_of_lexemes ls) = length-append l.text (text_of_lexemes ls) in
    let some = h.0 in
    let P : X → Type 0 = λ x. Lies s (s + length (text_of_lexemes (l ∷ ls))) (g.span x) in
    All-same P (g.all s (l ∷ ls)) (g.head s l ++ g.all (s + length l.text) ls) (g.step s l ls)
    (All-append P (g.head s l) (g.all (s + length l.text) ls)
    (head_all g P s l (λ x e. subst (Lies s (s + length (text_of_lexemes (l ∷ ls)))) (sym e) (record { starts = omega arith; some = omega arith; ends = omega arith })))
    (All-weaker (λ x. Lies (s + length l.text) (s + length l.text + length (text_of_lexemes ls)) (g.span x)) P (λ x w. record { starts = omega (arith, w.starts); some = w.some; ends = omega (arith, w.ends) }) (g.all (s + length l.text) ls)
    (lies g (s + length l.text) ls h.1)))

pub all-append : {X : Type 0} (g : AtLexemes X) (s : ℕ) (xs ys : List Lexeme) → g.all s (xs ++ ys) ≡ g.all s xs ++ g.all (s + length (text_of_lexemes xs)) ys
all-append g s [] ys = sym (ap₂ (λ t n. t ++ g.all n ys) (g.none s) (add-zero s))
all-append g s (x ∷ xs) ys =
    let place : s + length x.text + length (text_of_lexemes xs) ≡ s + length (text_of_lexemes (x ∷ xs)) = omega (arith, length-append x.text (text_of_lexemes xs)) in
    g.step s x (xs ++ ys)
    ∙ ap (λ t. g.head s x ++ t) (all-append g (s + length x.text) xs ys ∙ ap (λ n. g.all (s + length x.text) xs ++ g.all n ys) place)
    ∙ sym (append_assoc (g.head s x) (g.all (s + length x.text) xs) (g.all (s + length (text_of_lexemes (x ∷ xs))) ys))
    ∙ ap (λ t. t ++ g.all (s + length (text_of_lexemes (x ∷ xs))) ys) (sym (g.step s x xs))

-- If no item passes the test, the number of leading items that pass is 0.
pub none_pass : {X : Type 0} (q : X → Bool) (xs : List X) → All (λ x. q x ≡ false) xs → prefix_len q xs ≡ 0
none_pass q [] h = refl
none_pass q (x ∷ xs) h = cond-false (q x) (1 + prefix_len q xs) 0 (All-head (λ x. q x ≡ false) x xs h)

pub front_passes : {X : Type 0} (q : X → Bool) (xs ys : List X) → All (λ x. q x ≡ true) xs → prefix_len q ys ≡ 0 → prefix_len q (xs ++ ys) ≡ length xs
front_passes q [] ys h e = e
front_passes q (x ∷ xs) ys h e =
    let more = front_passes q xs ys (All-tail (λ x. q x ≡ true) x xs h) e in
    cond-true (q x) (1 + prefix_len q (xs ++ ys)) 0 (All-head (λ x. q x ≡ true) x xs h) ∙ omega (arith, more)

not_below : (a b : ℕ) → b ≤ a → ltb a b ≡ false
not_below a b h = false_from_ne_true (ltb a b) (λ e. absurd (omega (arith, ltb-true a b e)))

-- The items without the leading ones that begin before the end of the lexemes xs are the items of
-- the later lexemes ys.
pub back_split : {X : Type 0} (g : AtLexemes X) (s place : ℕ) (xs ys : List Lexeme) → Full xs → Full ys → s + length (text_of_lexemes xs) ≡ place → drop (prefix_len (λ x. ltb (g.span x).start place) (g.all s (xs ++ ys))) (g.all s (xs ++ ys)) ≡ g.all place ys
back_split {X} g s place xs ys f h e =
    let q : X → Bool = λ x. ltb (g.span x).start place in
    let split : g.all s (xs ++ ys) ≡ g.all s xs ++ g.all place ys = all-append g s xs ys ∙ ap (λ n. g.all s xs ++ g.all n ys) e in
    let front : All (λ x. q x ≡ true) (g.all s xs) = All-weaker (λ x. Lies s (s + length (text_of_lexemes xs)) (g.span x)) (λ x. q x ≡ true) (λ x w. lt-ltb (g.span x).start place (omega (arith, w.some, w.ends, e))) (g.all s xs) (lies g s xs f) in
    let back : All (λ x. q x ≡ false) (g.all place ys) = All-weaker (λ x. Lies place (place + length (text_of_lexemes ys)) (g.span x)) (λ x. q x ≡ false) (λ x w. not_below (g.span x).start place w.starts) (g.all place ys) (lies g place ys h) in
    ap (λ t. drop (prefix_len q t) t) split
    ∙ ap (λ n. drop n (g.all s xs ++ g.all place ys)) (front_passes q (g.all s xs) (g.all place ys) front (none_pass q (g.all place ys) back))
    ∙ drop-append_seam (g.all s xs) (g.all place ys)

-- The leading items that end before a place are the items of the lexemes xs that end before that
-- place.
pub front_split : {X : Type 0} (g : AtLexemes X) (s at place : ℕ) (xs ys : List Lexeme) → Full xs → (0 < length xs → s + length (text_of_lexemes xs) < place) → s + length (text_of_lexemes xs) ≡ at → prefix_len (λ x. ltb (g.span x).end place) (g.all at ys) ≡ 0 → take (prefix_len (λ x. ltb (g.span x).end place) (g.all s (xs ++ ys))) (g.all s (xs ++ ys)) ≡ g.all s xs
front_split {X} g s at place xs ys f near e none =
    let q : X → Bool = λ x. ltb (g.span x).end place in
    let split : g.all s (xs ++ ys) ≡ g.all s xs ++ g.all at ys = all-append g s xs ys ∙ ap (λ n. g.all s xs ++ g.all n ys) e in
    ap (λ t. take (prefix_len q t) t) split
    ∙ ap (λ n. take n (g.all s xs ++ g.all at ys)) (front_passes q (g.all s xs) (g.all at ys) (ends_in xs f near) none)
    ∙ take-append_seam (g.all s xs) (g.all at ys) where
      ends_in : (zs : List Lexeme) → Full zs → (0 < length zs → s + length (text_of_lexemes zs) < place) → All (λ x. ltb (g.span x).end place ≡ true) (g.all s zs)
      ends_in [] f near = All-same (λ x. ltb (g.span x).end place ≡ true) (g.all s []) [] (g.none s) (All-nil (λ x. ltb (g.span x).end place ≡ true))
      ends_in (z ∷ zs) f near =
          let close = near (omega arith) in
          All-weaker (λ x. Lies s (s + length (text_of_lexemes (z ∷ zs))) (g.span x)) (λ x. ltb (g.span x).end place ≡ true) (λ x w. lt-ltb (g.span x).end place (omega (arith, w.ends, close))) (g.all s (z ∷ zs)) (lies g s (z ∷ zs) f)

-- If the first lexeme ends at or after a place, no leading item ends before the place.
pub none_end : {X : Type 0} (g : AtLexemes X) (place s : ℕ) (l : Lexeme) (ls : List Lexeme) → Full (l ∷ ls) → place ≤ s + length l.text → prefix_len (λ x. ltb (g.span x).end place) (g.all s (l ∷ ls)) ≡ 0
none_end {X} g place s l ls f far =
    let P : X → Type 0 = λ x. ltb (g.span x).end place ≡ false in
    none_pass (λ x. ltb (g.span x).end place) (g.all s (l ∷ ls)) (All-same P (g.all s (l ∷ ls)) (g.head s l ++ g.all (s + length l.text) ls) (g.step s l ls)
    (All-append P (g.head s l) (g.all (s + length l.text) ls)
    (head_all g P s l (λ x e. subst (λ (v : Span). ltb v.end place ≡ false) (sym e) (not_below (s + length l.text) place far)))
    (All-weaker (λ x. Lies (s + length l.text) (s + length l.text + length (text_of_lexemes ls)) (g.span x)) P (λ x w. not_below (g.span x).end place (omega (arith, w.starts, w.some))) (g.all (s + length l.text) ls) (lies g (s + length l.text) ls f.1))))

-- Holds if the place is between two of the lexemes, or at the beginning or end of them.
pub record Border (s : ℕ) (ls : List Lexeme) (place : ℕ) : Type 0 where
  pub front : List Lexeme
  pub back : List Lexeme
  pub split : ls ≡ front ++ back
  pub at : s + length (text_of_lexemes front) ≡ place

further_border : (s place : ℕ) (l : Lexeme) (ls : List Lexeme) → Border (s + length l.text) ls place → Border s (l ∷ ls) place
further_border s place l ls b = record {
  front = l ∷ b.front;
  back = b.back;
  split = ap (λ t. l ∷ t) b.split;
  at = omega (arith, length-append l.text (text_of_lexemes b.front), b.at);
}

pub begin_at_borders : {X : Type 0} (g : AtLexemes X) (s : ℕ) (ls : List Lexeme) → All (λ x. Border s ls (g.span x).start) (g.all s ls)
begin_at_borders g s [] = All-same (λ x. Border s [] (g.span x).start) (g.all s []) [] (g.none s) (All-nil (λ x. Border s [] (g.span x).start))
begin_at_borders {X} g s (l ∷ ls) =
    let P : X → Type 0 = λ x. Border s (l ∷ ls) (g.span x).start in
    All-same P (g.all s (l ∷ ls)) (g.head s l ++ g.all (s + length l.text) ls) (g.step s l ls)
    (All-append P (g.head s l) (g.all (s + length l.text) ls)
    (head_all g P s l (λ x e. record { front = []; back = l ∷ ls; split = refl; at = add-zero s ∙ sym (ap (λ (v : Span). v.start) e) }))
    (All-weaker (λ x. Border (s + length l.text) ls (g.span x).start) P (λ x b. further_border s (g.span x).start l ls b) (g.all (s + length l.text) ls) (begin_at_borders g (s + length l.text) ls)))

-- Holds if each item begins before all later ones.
abbrev pub AreAscending : {X : Type 0} → (X → ℕ) → List X → Type 0
AreAscending start [] = Unit {0}
AreAscending start (x ∷ xs) = All (λ y. start x < start y) xs × AreAscending start xs

-- Holds if the key of a non-empty span is less than the key of every later span.
abbrev pub ComesAfter : (Span → ℕ) → Type 0
ComesAfter key = (s n high : ℕ) (v : Span) → 0 < n → Lies (s + n) high v → key (span_with_length s n) < key v

pub starts_after : ComesAfter (λ (v : Span). v.start)
starts_after s n high v some w = omega (arith, some, w.starts)

pub ends_after : ComesAfter (λ (v : Span). v.end)
ends_after s n high v some w = omega (arith, some, w.starts, w.some)

ascending_head : {X : Type 0} (g : AtLexemes X) (key : Span → ℕ) → ComesAfter key → (s high : ℕ) (l : Lexeme) (rest : List X) → 0 < length l.text → All (λ x. Lies (s + length l.text) high (g.span x)) rest → AreAscending (λ x. key (g.span x)) rest → AreAscending (λ x. key (g.span x)) (g.head s l ++ rest)
ascending_head {X} g key after s high l rest some later h = ⊎_elim
    (λ nothing. subst (λ t. AreAscending (λ x. key (g.span x)) (t ++ rest)) (sym nothing) h)
    (λ one. subst (λ t. AreAscending (λ x. key (g.span x)) (t ++ rest)) (sym one.1)
    (All-weaker (λ x. Lies (s + length l.text) high (g.span x)) (λ y. key (g.span one.0) < key (g.span y)) (λ y w. subst (λ (v : Span). key v < key (g.span y)) (sym one.2) (after s (length l.text) high (g.span y) some w)) rest later, h))
    (g.one s l)

pub ascending : {X : Type 0} (g : AtLexemes X) (key : Span → ℕ) → ComesAfter key → (s : ℕ) (ls : List Lexeme) → Full ls → AreAscending (λ x. key (g.span x)) (g.all s ls)
ascending g key after s [] h = subst (AreAscending (λ x. key (g.span x))) (sym (g.none s)) tt
ascending g key after s (l ∷ ls) h = subst (AreAscending (λ x. key (g.span x))) (sym (g.step s l ls))
    (ascending_head g key after s (s + length l.text + length (text_of_lexemes ls)) l (g.all (s + length l.text) ls) h.0 (lies g (s + length l.text) ls h.1)
    (ascending g key after (s + length l.text) ls h.1))

-- Returns the items without the leading ones that begin before a place.
abbrev pub back_of : {X : Type 0} → (X → ℕ) → ℕ → List X → List X
back_of start place xs = drop (prefix_len (λ x. ltb (start x) place) xs) xs

one_more : (n : ℕ) → 1 + n ≡ suc n
one_more n = omega arith

back_further : {X : Type 0} (start : X → ℕ) (place : ℕ) (x : X) (xs : List X) → start x < place → back_of start place (x ∷ xs) ≡ back_of start place xs
back_further start place x xs h = ap (λ n. drop n (x ∷ xs)) (cond-true (ltb (start x) place) (1 + prefix_len (λ y. ltb (start y) place) xs) 0 (lt-ltb (start x) place h) ∙ one_more (prefix_len (λ y. ltb (start y) place) xs))

back_here : {X : Type 0} (start : X → ℕ) (place : ℕ) (x : X) (xs : List X) → place ≤ start x → back_of start place (x ∷ xs) ≡ x ∷ xs
back_here start place x xs h = ap (λ n. drop n (x ∷ xs)) (cond-false (ltb (start x) place) (1 + prefix_len (λ y. ltb (start y) place) xs) 0 (not_below (start x) place h))

pub back_again : {X : Type 0} (start : X → ℕ) (near far : ℕ) (xs : List X) → near ≤ far → back_of start far (back_of start near xs) ≡ back_of start far xs
back_again start near far [] h = refl
back_again start near far (x ∷ xs) h = ⊎_elim
    (λ before. ap (back_of start far) (back_further start near x xs before) ∙ back_again start near far xs h ∙ sym (back_further start far x xs (omega (arith, before, h))))
    (λ following. ap (back_of start far) (back_here start near x xs following))
    (cases_lt (start x) near)

-- If the items ascend, all items without the leading ones that begin before a place begin there or
-- later.
pub back_later : {X : Type 0} (start : X → ℕ) (place : ℕ) (xs : List X) → AreAscending start xs → All (λ x. place ≤ start x) (back_of start place xs)
back_later start place [] h = All-nil (λ x. place ≤ start x)
back_later {X} start place (x ∷ xs) h = ⊎_elim
    (λ before. All-same (λ y. place ≤ start y) (back_of start place (x ∷ xs)) (back_of start place xs) (back_further start place x xs before) (back_later start place xs h.1))
    (λ following. All-same (λ y. place ≤ start y) (back_of start place (x ∷ xs)) (x ∷ xs) (back_here start place x xs following)
    (All-cons (λ y. place ≤ start y) x xs following (All-weaker (λ y. start x < start y) (λ y. place ≤ start y) (λ y later. omega (arith, following, later)) xs h.0)))
    (cases_lt (start x) place)

-- If the items before the first one that fails a test all pass it, that also holds with one more
-- item in front.
front_more : {X : Type 0} (q : X → Bool) (x : X) (xs : List X) (b : Bool) → q x ≡ b → All (λ y. q y ≡ true) (take (prefix_len q xs) xs) → All (λ y. q y ≡ true) (take (prefix_len q (x ∷ xs)) (x ∷ xs))
front_more q x xs true e more = All-same (λ y. q y ≡ true) (take (prefix_len q (x ∷ xs)) (x ∷ xs)) (x ∷ take (prefix_len q xs) xs) (ap (λ n. take n (x ∷ xs)) (cond-true (q x) (1 + prefix_len q xs) 0 e ∙ one_more (prefix_len q xs)))
    (All-cons (λ y. q y ≡ true) x (take (prefix_len q xs) xs) e more)
front_more q x xs false e more = All-same (λ y. q y ≡ true) (take (prefix_len q (x ∷ xs)) (x ∷ xs)) [] (ap (λ n. take n (x ∷ xs)) (cond-false (q x) (1 + prefix_len q xs) 0 e)) (All-nil (λ y. q y ≡ true))

pub front_all : {X : Type 0} (q : X → Bool) (xs : List X) → All (λ x. q x ≡ true) (take (prefix_len q xs) xs)
front_all q [] = All-nil (λ x. q x ≡ true)
front_all q (x ∷ xs) = front_more q x xs (q x) refl (front_all q xs)

-- Returns true if the first item begins at this place.
abbrev pub first_at : {X : Type 0} → (X → ℕ) → ℕ → List X → Bool
first_at start place [] = false
first_at start place (x ∷ xs) = eqb (start x) place

pub none_at : {X : Type 0} (start : X → ℕ) (place : ℕ) (xs : List X) → AreAscending start xs → first_at start place (back_of start place xs) ≡ false → All (λ x. start x ≢ place) xs
none_at start place [] h e = All-nil (λ x. start x ≢ place)
none_at {X} start place (x ∷ xs) h e = ⊎_elim
    (λ before. All-cons (λ y. start y ≢ place) x xs (λ same. absurd (omega (arith, before, same)))
    (none_at start place xs h.1 (sym (ap (first_at start place) (back_further start place x xs before)) ∙ e)))
    (λ following.
    let other : start x ≢ place = λ same. let clash : true ≡ false = sym (eq-eqb (start x) place same) ∙ sym (ap (first_at start place) (back_here start place x xs following)) ∙ e in cc in
    All-cons (λ y. start y ≢ place) x xs other (All-weaker (λ y. start x < start y) (λ y. start y ≢ place) (λ y later. λ same. absurd (omega (arith, following, later, same))) xs h.0))
    (cases_lt (start x) place)

pub at_first : {X : Type 0} (start : X → ℕ) (P : ℕ → Type 0) (place : ℕ) (xs : List X) → first_at start place xs ≡ true → All (λ x. P (start x)) xs → P place
at_first start P place [] e h = let clash : false ≡ true = e in cc
at_first start P place (x ∷ xs) e h = subst P (eqb-true (start x) place e) (All-head (λ x. P (start x)) x xs h)

abbrev make_span : ℕ → ℕ → Span
make_span start end = record { start = start; end = end }

-- Moving a lexeme moves its span by the same distance.
module _ (removed added : ℕ) where
  moved_span : (at place n : ℕ) → at + removed ≡ place + added → removed ≤ place → span_with_length at n ≡ span_after_shift removed added (span_with_length place n)
  moved_span at place n e h =
      let start : at ≡ place + added - removed = omega arith in
      let end : at + n ≡ place + n + added - removed = omega arith in
      ap₂ make_span start end

  token_moved : (k : LexemeKind) (here there : Span) → here ≡ span_after_shift removed added there → tokens_of_one_lexeme k here ≡ map (token_after_shift removed added) (tokens_of_one_lexeme k there)
  token_moved lexeme.WhiteSpace here there e = refl
  token_moved lexeme.Comment here there e = refl
  token_moved (lexeme.Token k) here there e = ap (tokens_of_one_lexeme (lexeme.Token k)) e

  comment_moved : (k : LexemeKind) (here there : Span) → here ≡ span_after_shift removed added there → comments_of_one_lexeme k here ≡ map (span_after_shift removed added) (comments_of_one_lexeme k there)
  comment_moved lexeme.WhiteSpace here there e = refl
  comment_moved lexeme.Comment here there e = ap (comments_of_one_lexeme lexeme.Comment) e
  comment_moved (lexeme.Token k) here there e = refl

  pub tokens_moved : (at place : ℕ) (ls : List Lexeme) → at + removed ≡ place + added → removed ≤ place → tokens_of_lexemes_from at ls ≡ map (token_after_shift removed added) (tokens_of_lexemes_from place ls)
  tokens_moved at place [] e h = refl
  tokens_moved at place (l ∷ ls) e h =
      ap₂ (λ xs ys. xs ++ ys) (token_moved l.kind (span_with_length at (length l.text)) (span_with_length place (length l.text)) (moved_span at place (length l.text) e h)) (tokens_moved (at + length l.text) (place + length l.text) ls (omega arith) (omega arith))
      ∙ sym (map-append (token_after_shift removed added) (tokens_of_one_lexeme l.kind (span_with_length place (length l.text))) (tokens_of_lexemes_from (place + length l.text) ls))

  pub comments_moved : (at place : ℕ) (ls : List Lexeme) → at + removed ≡ place + added → removed ≤ place → comments_of_lexemes_from at ls ≡ map (span_after_shift removed added) (comments_of_lexemes_from place ls)
  comments_moved at place [] e h = refl
  comments_moved at place (l ∷ ls) e h =
      ap₂ (λ xs ys. xs ++ ys) (comment_moved l.kind (span_with_length at (length l.text)) (span_with_length place (length l.text)) (moved_span at place (length l.text) e h)) (comments_moved (at + length l.text) (place + length l.text) ls (omega arith) (omega arith))
      ∙ sym (map-append (span_after_shift removed added) (comments_of_one_lexeme l.kind (span_with_length place (length l.text))) (comments_of_lexemes_from (place + length l.text) ls))
