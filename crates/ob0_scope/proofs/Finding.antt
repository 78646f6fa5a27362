-- Proves that a loop that searches parts one by one gives the result of the complete search.
use Rattle.std.proofs.Common.{◌≡◌, ℕ, ◌≤◌, Option, Some, None, List, [], length, drop, refl, sym, ap, ◌∙◌}
use Rattle.std.proofs.lemmas.List.{drop_all}
use Rattle.std.specs.Option.{option_or}

-- states that the result so far, or else the result in the remaining parts, is the result of the
-- complete search
pub record Finding {A : Type 0} (find : List A → Option ℕ) (xs : List A) (start : Option ℕ) (done : ℕ) (now : Option ℕ) : Type 0 where
  pub so_far : option_or now (find (drop done xs)) ≡ option_or start (find xs)

pub or_none : (o : Option ℕ) → option_or o None ≡ o
or_none None = refl
or_none (Some k) = refl

pub or_assoc : (o p q : Option ℕ) → option_or (option_or o p) q ≡ option_or o (option_or p q)
or_assoc None p q = refl
or_assoc (Some k) p q = refl

pub all_found : {A : Type 0} (find : List A → Option ℕ) {xs : List A} {start : Option ℕ} {done : ℕ} {now : Option ℕ} → find [] ≡ None → Finding find xs start done now → length xs ≤ done → now ≡ option_or start (find xs)
all_found find {xs = xs} {done = done} {now = now} empty_is w all = sym (or_none now) ∙ (ap (option_or now) (sym (ap find (drop_all done xs all) ∙ empty_is)) ∙ w.so_far)
