-- Defines the invariant of a loop over a list: doing the rest of the work now gives the same result
-- as doing all of it at first. It is a record with one equation, so that `init` and `preserved` are
-- proved automatically, even if the step is a call.
use Rattle.std.proofs.Common.{◌≡◌, ℕ, ◌+◌, ◌<◌, ◌≤◌, List, [], ◌∷◌, length, get_or, drop, sym, ap, ◌∙◌}
use Rattle.std.proofs.lemmas.List.{drop_all, drop_more}

-- states that visiting the remaining items now gives the same result as visiting all of them at
-- first
pub record Going {A S : Type 0} (go : List A → S → S) (xs : List A) (start : S) (done : ℕ) (now : S) : Type 0 where
  pub so_far : go (drop done xs) now ≡ go xs start

pub goes_on : {A S : Type 0} (go : List A → S → S) {xs : List A} {start : S} {done : ℕ} {now : S} (x : A) (next : S)
    → Going go xs start done now → done < length xs → x ≡ get_or xs done x → ((rest : List A) → go (x ∷ rest) now ≡ go rest next) → Going go xs start (done + 1) next
goes_on go {xs = xs} {done = done} {now = now} x next w less here step =
    let split : drop done xs ≡ x ∷ drop (done + 1) xs = drop_more xs done x less ∙ ap (λ y. y ∷ drop (done + 1) xs) (sym here) in
    record { so_far = sym (step (drop (done + 1) xs)) ∙ (sym (ap (λ ys. go ys now) split) ∙ w.so_far) }

pub gone_through : {A S : Type 0} (go : List A → S → S) {xs : List A} {start : S} {done : ℕ} {now : S}
    → Going go xs start done now → length xs ≤ done → go [] now ≡ go xs start
gone_through go {xs = xs} {done = done} {now = now} w all = sym (ap (λ ys. go ys now) (drop_all done xs all)) ∙ w.so_far
