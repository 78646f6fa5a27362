-- Proves one iteration of a loop that collects the results of a function for the elements of a
-- list. The iteration adds the result for the next element.
use Rattle.std.proofs.Common.{◌≡◌, ℕ, ◌+◌, ◌<◌, List, [], ◌∷◌, ◌++◌, map, length, take, get_or, sym, ◌∙◌}
use Rattle.std.proofs.lemmas.List.{map_more}

pub one_more : {X Y : Type 0} (f : X → Y) (xs : List X) (i : ℕ) (d : X) (ys : List Y) (y : Y) → i < length xs → ys ≡ map f (take i xs) → y ≡ f (get_or xs i d) → ys ++ (y ∷ []) ≡ map f (take (i + 1) xs)
one_more f xs i d ys y low so_far is = (λ j. so_far j ++ (is j ∷ [])) ∙ sym (map_more f xs i d low)
