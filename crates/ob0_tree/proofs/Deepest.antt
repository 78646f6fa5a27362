-- Proves that a loop over a list of items, which keeps the greatest nesting depth so far, computes
-- the nesting depth of the whole list.
use Rattle.std.proofs.Common.{◌≡◌, ℕ, ◌+◌, ◌<◌, ◌≤◌, max, List, ◌∷◌, length, drop, get_or, sym, ap, ◌∙◌, arith}
use Rattle.std.proofs.lemmas.List.{drop_all, drop_more}
use Rattle.ob0_tree.specs.CappedDepth.{capped_to_u32}
use Rattle.ob0_tree.specs.Tree.{Tree, GrammarItem, item, nesting}
use Rattle.ob0_tree.specs.View.{items_of}

pub capped_max : (a b : ℕ) → max (capped_to_u32 a) (capped_to_u32 b) ≡ capped_to_u32 (max a b)
capped_max a b = omega arith

pub capped_more : (a : ℕ) → capped_to_u32 (capped_to_u32 a + 1) ≡ capped_to_u32 (a + 1)
capped_more a = omega arith

-- Holds if the greatest of `deepest` and the nesting of the remaining items is the greatest of
-- `start` and the nesting of all items.
pub record Deepest {A : Type 0} {i : GrammarItem} (f : A → Tree ℕ (item i)) (start : ℕ) (xs : List A) (done : ℕ) (deepest : ℕ) : Type 0 where
  pub so_far : max deepest (capped_to_u32 (nesting (items_of f (drop done xs)))) ≡ max start (capped_to_u32 (nesting (items_of f xs)))

max_assoc : (a b c : ℕ) → max (max a b) c ≡ max a (max b c)
max_assoc a b c = omega arith

pub deeper_on : {A : Type 0} {i : GrammarItem} (f : A → Tree ℕ (item i)) {start : ℕ} {xs : List A} {done deepest of_item next : ℕ} (x : A)
    → Deepest f start xs done deepest → done < length xs → x ≡ get_or xs done x → of_item ≡ capped_to_u32 (nesting (f x)) → next ≡ max deepest of_item → Deepest f start xs (done + 1) next
deeper_on f {xs = xs} {done = done} {deepest = deepest} x w less here p q =
    let split : drop done xs ≡ x ∷ drop (done + 1) xs = drop_more xs done x less ∙ ap (λ y. y ∷ drop (done + 1) xs) (sym here) in
    let rest = nesting (items_of f (drop (done + 1) xs)) in
    record {
      so_far = ap (λ n. max n (capped_to_u32 rest)) (q ∙ ap (λ n. max deepest n) p)
          ∙ (max_assoc deepest (capped_to_u32 (nesting (f x))) (capped_to_u32 rest)
          ∙ (ap (λ n. max deepest n) (capped_max (nesting (f x)) rest)
          ∙ (sym (ap (λ ys. max deepest (capped_to_u32 (nesting (items_of f ys)))) split) ∙ w.so_far)));
    }

at_the_end : (deepest all : ℕ) → max deepest 0 ≡ all → deepest ≡ all
at_the_end deepest all e = omega (arith, e)

pub deepest_ends : {A : Type 0} {i : GrammarItem} {f : A → Tree ℕ (item i)} {start : ℕ} {xs : List A} {done : ℕ} {deepest : ℕ}
    → Deepest f start xs done deepest → length xs ≤ done → deepest ≡ max start (capped_to_u32 (nesting (items_of f xs)))
deepest_ends {f = f} {start = start} {xs = xs} {done = done} {deepest = deepest} w all =
    at_the_end deepest (max start (capped_to_u32 (nesting (items_of f xs)))) (sym (ap (λ ys. max deepest (capped_to_u32 (nesting (items_of f ys)))) (drop_all done xs all)) ∙ w.so_far)

pub two_deep : {first second deepest : ℕ} (a b : ℕ) → first ≡ capped_to_u32 a → second ≡ capped_to_u32 b → deepest ≡ max first second → deepest ≡ capped_to_u32 (max a b)
two_deep {first = first} {second = second} a b p q r = r ∙ (ap (λ x. max x second) p ∙ (ap (λ x. max (capped_to_u32 a) x) q ∙ capped_max a b))

pub one_deeper : {inner outer : ℕ} (a : ℕ) → inner ≡ capped_to_u32 a → outer ≡ capped_to_u32 (inner + 1) → outer ≡ capped_to_u32 (a + 1)
one_deeper a p q = q ∙ (ap (λ x. capped_to_u32 (x + 1)) p ∙ capped_more a)

-- A number that is at most 100 isn't changed by the cap.
pub not_capped : (n m : ℕ) → m ≤ 100 → n ≡ capped_to_u32 m → n ≡ m
not_capped n m h e = omega (arith, h, e)

pub max_zero : (n : ℕ) → n ≡ max n 0
max_zero n = omega arith

pub zero_max : (n : ℕ) → max 0 n ≡ n
zero_max n = omega arith

-- At the end of a list, if the loop started at 0, the result is the nesting of all items.
pub list_ends : {A : Type 0} {i : GrammarItem} {f : A → Tree ℕ (item i)} {xs : List A} {done : ℕ} {deepest : ℕ} → Deepest f 0 xs done deepest → length xs ≤ done → deepest ≡ capped_to_u32 (nesting (items_of f xs))
list_ends {f = f} {xs = xs} w all = deepest_ends w all ∙ zero_max (capped_to_u32 (nesting (items_of f xs)))
