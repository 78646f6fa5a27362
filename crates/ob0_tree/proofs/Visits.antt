-- Proves that a walk over a list visits the identifiers of each item after those of the earlier
-- items.
use Rattle.std.proofs.Common.{◌≡◌, ℕ, ◌+◌, ◌<◌, ◌≤◌, List, [], ◌∷◌, ◌++◌, length, drop, get_or, refl, sym, ap, ◌∙◌, append-nil, append_assoc}
use Rattle.std.proofs.lemmas.List.{drop_all, drop_more}
use Rattle.ob0_tree.specs.declared.tree.Role.{Role}
use Rattle.ob0_tree.specs.Tree.{Tree, GrammarItem, item, identifiers}
use Rattle.ob0_tree.specs.View.{items_of}
use Rattle.ob0_tree.specs.VisitorStates.{state_after_identifiers}

-- Holds if visiting the remaining items in the present state gives the same state as visiting all
-- items in the initial state.
pub record Visiting {S A : Type 0} {i : GrammarItem} (step : Role → ℕ → S → S) (f : A → Tree ℕ (item i)) (r : Role) (start : S) (xs : List A) (done : ℕ) (now : S) : Type 0 where
  pub so_far : state_after_identifiers step (identifiers r (items_of f (drop done xs))) now ≡ state_after_identifiers step (identifiers r (items_of f xs)) start

pub visited_append : {S : Type 0} (step : Role → ℕ → S → S) (xs ys : List (Role × ℕ)) (s : S) → state_after_identifiers step (xs ++ ys) s ≡ state_after_identifiers step ys (state_after_identifiers step xs s)
visited_append step [] ys s = refl
visited_append step (x ∷ xs) ys s = visited_append step xs ys (step x.0 x.1 s)

pub visits_on : {S A : Type 0} {i : GrammarItem} {step : Role → ℕ → S → S} (f : A → Tree ℕ (item i)) {r : Role} {start : S} {xs : List A} {done : ℕ} {now : S} (x : A) (next : S)
    → Visiting step f r start xs done now → done < length xs → x ≡ get_or xs done x → next ≡ state_after_identifiers step (identifiers r (f x)) now → Visiting step f r start xs (done + 1) next
visits_on {step = step} f {r = r} {xs = xs} {done = done} {now = now} x next w less here e =
    let split : drop done xs ≡ x ∷ drop (done + 1) xs = drop_more xs done x less ∙ ap (λ y. y ∷ drop (done + 1) xs) (sym here) in
    let rest = identifiers r (items_of f (drop (done + 1) xs)) in
    record {
      so_far = ap (state_after_identifiers step rest) e
          ∙ (sym (visited_append step (identifiers r (f x)) rest now)
          ∙ (sym (ap (λ ys. state_after_identifiers step (identifiers r (items_of f ys)) now) split) ∙ w.so_far));
    }

pub all_visited : {S A : Type 0} {i : GrammarItem} {step : Role → ℕ → S → S} {f : A → Tree ℕ (item i)} {r : Role} {start : S} {xs : List A} {done : ℕ} {now : S}
    → Visiting step f r start xs done now → length xs ≤ done → now ≡ state_after_identifiers step (identifiers r (items_of f xs)) start
all_visited {step = step} {f = f} {r = r} {xs = xs} {done = done} {now = now} w all = sym (ap (λ ys. state_after_identifiers step (identifiers r (items_of f ys)) now) (drop_all done xs all)) ∙ w.so_far

-- Visiting two lists of identifiers one after the other is visiting their concatenation.
pub then_visited : {S : Type 0} (step : Role → ℕ → S → S) (start : S) (a b : List (Role × ℕ)) {first : S} → first ≡ state_after_identifiers step a start → state_after_identifiers step b first ≡ state_after_identifiers step (a ++ b) start
then_visited step start a b e = ap (state_after_identifiers step b) e ∙ sym (visited_append step a b start)

pub four_visited : {S : Type 0} (step : Role → ℕ → S → S) (start : S) (a b c d : List (Role × ℕ)) {first second third : S} → first ≡ state_after_identifiers step a start → second ≡ state_after_identifiers step b first → third ≡ state_after_identifiers step c second
    → state_after_identifiers step d third ≡ state_after_identifiers step (a ++ (b ++ (c ++ d))) start
four_visited step start a b c d {first = first} {second = second} e f g = then_visited step second c d g ∙ (then_visited step first b (c ++ d) f ∙ then_visited step start a (b ++ (c ++ d)) e)

-- A visitor that lists the identifiers appends them to its initial list.
pub visits_listed : (xs before : List (Role × ℕ)) → state_after_identifiers (λ r i before. before ++ ((r, i) ∷ [])) xs before ≡ before ++ xs
visits_listed [] before = sym (append-nil before)
visits_listed (x ∷ xs) before = visits_listed xs (before ++ (x ∷ [])) ∙ append_assoc before (x ∷ []) xs
