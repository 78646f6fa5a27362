-- Proves that two lists that correspond item by item still do after each is extended by one
-- corresponding item.
use Rattle.std.proofs.Common.{◌≡◌, ◌<◌, ◌+◌, ℕ, List, [], ◌∷◌, ◌++◌, length, take, get_or, map, add-one}
use Rattle.std.proofs.lemmas.List.{map-append}
use Rattle.std.proofs.Math.Seq.{take-suc}

pub maps_more : {A B C : Type 0} (f : A → C) (g : B → C) (xs : List A) (x : A) (ys : List B) (i : ℕ) (d : B) → i < length ys
    → map f xs ≡ map g (take i ys) → f x ≡ g (get_or ys i d) → map f (xs ++ x ∷ []) ≡ map g (take (i + 1) ys)
maps_more f g xs x ys i d h same next =
    rw (add-one, take-suc ys i d h, map-append f xs (x ∷ []), map-append g (take i ys) (get_or ys i d ∷ []), same, next)
