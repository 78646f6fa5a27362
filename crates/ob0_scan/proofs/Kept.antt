-- Proves facts about the old tokens and comments that are reused in a changed text, and about the
-- tokens and comments between the two reused parts.
use Rattle.std.proofs.Common.{◌≡◌, ℕ, zero, suc, ◌+◌, ◌-◌, ◌<◌, ◌≤◌, get_or, set, Bool, true, false, cond, List, [], ◌∷◌, ◌++◌, length, map, take, drop, refl, sym, ap, ap₂, ◌∙◌, subst, arith, append_assoc, length-drop, length-take-le, take-append-drop, drop_at, ltb}
use Rattle.std.specs.List.{All, prefix_len, splice}
use Rattle.std.proofs.lemmas.List.{append-nil, drop_all, length-append, take-append-le, take_all}
use borrow.Rule.Slice.PartMut.{post_of}
use Rattle.std.proofs.lemmas.List.Elements.{All-head, All-tail, All-same, All-weaker}
use Rattle.std.proofs.lemmas.List.Folds.{length-prefix_len}
use Rattle.std.proofs.lemmas.List.Sums.{prefix_len-le-length}
use Rattle.std.proofs.lemmas.Bool.{lt-ltb, ltb-true}
use Rattle.ob0_scan.specs.declared.lexeme.Span.{Span}
use Rattle.ob0_scan.specs.declared.lexeme.Token.{Token}
use Rattle.ob0_scan.specs.declared.scanner.Scanner.{Scanner}
use Rattle.ob0_scan.specs.declared.incremental_scan.RescannedMiddle.{RescannedMiddle}
use Rattle.ob0_scan.specs.TextLexemes.{Lexeme, text_of_lexemes}
use Rattle.ob0_scan.specs.TextWithTokens.{TextWithTokens, IsScan}
use Rattle.ob0_scan.specs.ReusedLexemes.{span_after_shift, token_after_shift, tokens_ending_before, comments_ending_before, tokens_beginning_at_or_after}
use Rattle.ob0_scan.specs.RescanState.{IsShiftable, IsRescannedMiddle, AddsNewLexemes, scan_with_new_middle}
use Rattle.ob0_scan.proofs.AtLexemes.{AtLexemes, of_tokens, of_comments, Full, Lies, full, lies, AreAscending, ascending, starts_after, back_later, front_all}
use Rattle.ob0_scan.proofs.RescannedMiddle.{Settled, reused}

longer_count : (b d : Bool) (n m : ℕ) → (b ≡ true → d ≡ true) → n ≤ m → cond b (1 + n) 0 ≤ cond d (1 + m) 0
longer_count true true n m h less = omega (arith, less)
longer_count true false n m h less = let clash : false ≡ true = h refl in cc
longer_count false d n m h less = omega arith

-- If q passes whenever p does, at least as many leading items pass q as pass p.
longer_prefix : {X : Type 0} (p q : X → Bool) (xs : List X) → All (λ x. p x ≡ true → q x ≡ true) xs → prefix_len p xs ≤ prefix_len q xs
longer_prefix p q [] a = omega arith
longer_prefix p q (x ∷ xs) a =
    longer_count (p x) (q x) (prefix_len p xs) (prefix_len q xs) (All-head (λ y. p y ≡ true → q y ≡ true) x xs a) (longer_prefix p q xs (All-tail (λ y. p y ≡ true → q y ≡ true) x xs a))

-- At most as many leading items end before a place as begin before the same or a later place.
apart : {X : Type 0} (g : AtLexemes X) (from place : ℕ) (ls : List Lexeme) → Full ls → from ≤ place → prefix_len (λ x. ltb (g.span x).end from) (g.all 0 ls) ≤ prefix_len (λ x. ltb (g.span x).start place) (g.all 0 ls)
apart g from place ls f less =
    let high : ℕ = 0 + length (text_of_lexemes ls) in
    longer_prefix (λ x. ltb (g.span x).end from) (λ x. ltb (g.span x).start place) (g.all 0 ls)
    (All-weaker (λ x. Lies 0 high (g.span x)) (λ x. ltb (g.span x).end from ≡ true → ltb (g.span x).start place ≡ true)
    (λ x w e. lt-ltb (g.span x).start place (omega (arith, w.some, less, ltb-true (g.span x).end from e))) (g.all 0 ls) (lies g 0 ls f))

-- Holds if `fs` are the first n items of the list, and `rs` are the items starting at index m.
record Parts {X : Type 0} (xs fs rs : List X) (n m : ℕ) : Type 0 where
  pub ordered : n ≤ m
  pub inside : m ≤ length xs
  pub front : take n xs ≡ fs
  pub back : drop m xs ≡ rs

parts : {X : Type 0} (xs fs rs : List X) (p q : X → Bool) (n m : ℕ) → prefix_len p xs ≤ prefix_len q xs → fs ≡ take (prefix_len p xs) xs → rs ≡ drop (prefix_len q xs) xs → n ≡ length fs → m ≡ length xs - length rs → Parts xs fs rs n m
parts xs fs rs p q n m less ef er en em =
    let near : n ≡ prefix_len p xs = en ∙ ap length ef ∙ length-prefix_len p xs in
    let within : prefix_len q xs ≤ length xs = prefix_len-le-length q xs in
    let far : m ≡ prefix_len q xs = omega (arith, em, ap length er, length-drop (prefix_len q xs) xs, within) in
    record {
      ordered = omega (arith, near, far, less);
      inside = omega (arith, far, within);
      front = ap (λ k. take k xs) near ∙ sym ef;
      back = ap (λ k. drop k xs) far ∙ sym er;
    }

module _ (old : TextWithTokens) (o : IsScan old) (new : List ℕ) (from removed added : ℕ) (s t : Scanner) (fs rs : List Token) (gs qs : List Span) (b : RescannedMiddle) where
  token_parts : fs ≡ tokens_ending_before from old.tokens → Settled old new from removed added t rs qs → b.old_start.tokens ≡ length fs → b.old_end.tokens ≡ length old.tokens - length rs → Parts old.tokens fs rs b.old_start.tokens b.old_end.tokens
  token_parts ef w en em =
      let place : ℕ = t.at + removed - added in
      let less = apart of_tokens from place o.lexemes (full o.lexemes [] o.lexed.each) (omega (arith, w.met.behind_change)) in
      parts old.tokens fs rs (λ (x : Token). ltb x.span.end from) (λ (x : Token). ltb x.span.start place) b.old_start.tokens b.old_end.tokens
      (subst (λ (xs : List Token). prefix_len (λ (x : Token). ltb x.span.end from) xs ≤ prefix_len (λ (x : Token). ltb x.span.start place) xs) (sym o.tokens) less)
      ef w.met.tokens_are en em

  comment_parts : gs ≡ comments_ending_before from old.comments → Settled old new from removed added t rs qs → b.old_start.comments ≡ length gs → b.old_end.comments ≡ length old.comments - length qs → Parts old.comments gs qs b.old_start.comments b.old_end.comments
  comment_parts ef w en em =
      let place : ℕ = t.at + removed - added in
      let less = apart of_comments from place o.lexemes (full o.lexemes [] o.lexed.each) (omega (arith, w.met.behind_change)) in
      parts old.comments gs qs (λ (x : Span). ltb x.end from) (λ (x : Span). ltb x.start place) b.old_start.comments b.old_end.comments
      (subst (λ (xs : List Span). prefix_len (λ (x : Span). ltb x.end from) xs ≤ prefix_len (λ (x : Span). ltb x.start place) xs) (sym o.comments) less)
      ef w.met.comments_are en em

  -- The items that a scanner has read after the front are between the reused ones.
  pub lies_between : fs ≡ tokens_ending_before from old.tokens → gs ≡ comments_ending_before from old.comments → t.front.tokens.now ≡ fs → t.front.comments.now ≡ gs → s.tokens.items ≡ [] → s.comments.items ≡ []
      → AddsNewLexemes old from removed added s t → Settled old new from removed added t rs qs
      → b.old_start.tokens ≡ length fs → b.old_end.tokens ≡ length old.tokens - length rs → b.old_start.comments ≡ length gs → b.old_end.comments ≡ length old.comments - length qs
      → b.tokens.items ≡ t.tokens.items → b.comments.items ≡ t.comments.items → IsRescannedMiddle old new from removed added b
  lies_between ef eg tf tg st sc r w n m k l et ec =
      let ts = token_parts ef w n m in
      let cs = comment_parts eg w k l in
      let tokens : (scan_with_new_middle old new removed added b).tokens ≡ (fs ++ t.tokens.items) ++ map (token_after_shift removed added) rs =
      ap₂ (λ x y. x ++ (b.tokens.items ++ map (token_after_shift removed added) y)) ts.front ts.back ∙ ap (λ x. fs ++ (x ++ map (token_after_shift removed added) rs)) et ∙ sym (append_assoc fs t.tokens.items (map (token_after_shift removed added) rs)) in
      let comments : (scan_with_new_middle old new removed added b).comments ≡ (gs ++ t.comments.items) ++ map (span_after_shift removed added) qs =
      ap₂ (λ x y. x ++ (b.comments.items ++ map (span_after_shift removed added) y)) cs.front cs.back ∙ ap (λ x. gs ++ (x ++ map (span_after_shift removed added) qs)) ec ∙ sym (append_assoc gs t.comments.items (map (span_after_shift removed added) qs)) in
      record {
        tokens_ordered = ts.ordered;
        tokens_inside = ts.inside;
        comments_ordered = cs.ordered;
        comments_inside = cs.inside;
        tokens_before = All-weaker (λ (x : Token). ltb x.span.end from ≡ true) (λ (x : Token). x.span.end ≤ from) (λ x w. omega (arith, ltb-true x.span.end from w)) (take b.old_start.tokens old.tokens)
            (All-same (λ (x : Token). ltb x.span.end from ≡ true) (take b.old_start.tokens old.tokens) (tokens_ending_before from old.tokens) (ts.front ∙ ef) (front_all (λ (x : Token). ltb x.span.end from) old.tokens));
        tokens_after = All-weaker (λ (x : Token). t.at + removed - added ≤ x.span.start) (λ (x : Token). from + removed ≤ x.span.start) (λ x later. omega (arith, later, w.met.behind_change)) (drop b.old_end.tokens old.tokens)
            (All-same (λ (x : Token). t.at + removed - added ≤ x.span.start) (drop b.old_end.tokens old.tokens) (tokens_beginning_at_or_after (t.at + removed - added) old.tokens) (ts.back ∙ w.met.tokens_are)
            (back_later (λ (x : Token). x.span.start) (t.at + removed - added) old.tokens (subst (AreAscending (λ (x : Token). x.span.start)) (sym o.tokens) (ascending of_tokens (λ (v : Span). v.start) starts_after 0 o.lexemes (full o.lexemes [] o.lexed.each)))));
        tokens_are_movable = All-same (λ (x : Token). IsShiftable removed added x.span) (drop b.old_end.tokens old.tokens) rs ts.back w.tokens_are_movable;
        comments_are_movable = All-same (λ (x : Span). IsShiftable removed added x) (drop b.old_end.comments old.comments) qs cs.back w.comments_are_movable;
        scan = subst (λ (x : List Token). IsScan (record { text = new; tokens = x; comments = (scan_with_new_middle old new removed added b).comments })) (sym tokens)
            (subst (λ (y : List Span). IsScan (record { text = new; tokens = (fs ++ t.tokens.items) ++ map (token_after_shift removed added) rs; comments = y })) (sym comments)
            (subst (λ (x : List Token). IsScan (record { text = new; tokens = (x ++ t.tokens.items) ++ map (token_after_shift removed added) rs; comments = (gs ++ t.comments.items) ++ map (span_after_shift removed added) qs })) tf
            (subst (λ (y : List Span). IsScan (record { text = new; tokens = (t.front.tokens.now ++ t.tokens.items) ++ map (token_after_shift removed added) rs; comments = (y ++ t.comments.items) ++ map (span_after_shift removed added) qs })) tg w.scan)));
        reuses = reused old (scan_with_new_middle old new removed added b) from removed added s t rs qs (length new) fs gs ef eg st sc r w.met tokens comments (length b.tokens.items + length b.comments.items) (omega (arith, ap length et, ap length ec));
      }

-- ---- a list whose items are changed one by one from the beginning

pub changed_there : {X : Type 0} (f : X → X) (xs : List X) (i n : ℕ) (d v : X) → i < length xs → n ≡ suc i → v ≡ f (get_or xs i d) → set (map f (take i xs) ++ drop i xs) i v ≡ map f (take n xs) ++ drop n xs
changed_there f [] i n d v less e w = absurd (omega (arith, less))
changed_there f (x ∷ xs) zero n d v less e w = rw (e, w)
changed_there f (x ∷ xs) (suc i) n d v less e w = ap (λ ys. f x ∷ ys) (changed_there f xs i (suc i) d v (omega (arith, less)) refl w) ∙ ap (λ k. map f (take k (x ∷ xs)) ++ drop k (x ∷ xs)) (sym e)

pub unchanged_there : {X : Type 0} (f : X → X) (xs : List X) (i : ℕ) (d : X) → i < length xs → get_or (map f (take i xs) ++ drop i xs) i d ≡ get_or xs i d
unchanged_there f [] i d less = absurd (omega (arith, less))
unchanged_there f (x ∷ xs) zero d less = refl
unchanged_there f (x ∷ xs) (suc i) d less = unchanged_there f xs i d (omega (arith, less))

-- Returns the items of a `Vec` of length `n` after the items at index `k` and later are replaced by
-- as many others, `new`.
abbrev pub written_over : {X : Type 0} → ℕ → ℕ → List X → List X → List X → List X
written_over k n xs items new =
    take n ((take k xs ++ (new ++ post_of k (length xs - k) xs)) ++ drop (length (take k xs ++ (new ++ post_of k (length xs - k) xs))) items)

pub written_behind : {X : Type 0} (k n : ℕ) (xs items new : List X) → k ≤ length items → n ≡ length items → xs ≡ items → length new ≡ length xs - k → written_over k n xs items new ≡ take k items ++ new
written_behind k n xs items new inside size same many =
    let post : post_of k (length xs - k) xs ≡ [] = drop_all (length xs - k) (drop k xs) (omega (arith, length-drop k xs)) in
    let held : take k xs ++ (new ++ post_of k (length xs - k) xs) ≡ take k items ++ new = ap₂ (λ us vs. take k us ++ vs) same (ap (λ us. new ++ us) post ∙ append-nil new) in
    let long : length (take k items ++ new) ≡ n = omega (arith, length-append (take k items) new, length-take-le k items inside, many, size, ap length same, inside) in
    ap (λ us. take n (us ++ drop (length us) items)) held
    ∙ (ap (λ us. take n ((take k items ++ new) ++ us)) (drop_all (length (take k items ++ new)) items (omega (arith, long, size)))
    ∙ (ap (take n) (append-nil (take k items ++ new)) ∙ take_all n (take k items ++ new) (omega (arith, long))))

-- Replacing the items between two indexes of a list gives its front, the new items and its back.
pub put_between : {X : Type 0} (xs ys zs us vs now : List X) (front following : ℕ) → front ≤ following → following ≤ length xs → ys ≡ take following xs ++ zs → now ≡ splice ys front following vs → vs ≡ us → now ≡ take front xs ++ (us ++ zs)
put_between xs ys zs us vs now front following less inside e s b =
    let long : length (take following xs) ≡ following = length-take-le following xs inside in
    let short : take front ys ≡ take front xs =
    ap (take front) e
    ∙ take-append-le front (take following xs) zs (omega (arith, long, less))
    ∙ sym (take-append-le front (take following xs) (drop following xs) (omega (arith, long, less)))
    ∙ ap (take front) (take-append-drop following xs) in
    let back : drop following ys ≡ zs = ap (drop following) e ∙ drop_at (take following xs) zs following long in
    s ∙ ap₂ (λ x y. x ++ (vs ++ y)) short back ∙ ap (λ x. take front xs ++ (x ++ zs)) b
