-- A list whose items change one by one, from an index on.
use Rattle.std.proofs.Common.{◌≡◌, ℕ, ◌+◌, ◌-◌, ◌<◌, ◌≤◌, get_or, set, List, ◌++◌, length, map, take, drop, ap, ◌∙◌, arith, length-drop, length-take-le}
use Rattle.std.proofs.lemmas.List.{set-append_right, get_or-append_right}
use Rattle.ob0_scan.proofs.Kept.{changed_there, unchanged_there}

-- Holds if `now` is the list xs with f applied to the items from index `first` up to index `at`.
pub record ChangedTo {X : Type 0} (f : X → X) (xs : List X) (first at : ℕ) (now : List X) : Type 0 where
  pub following : first ≤ at
  pub inside : at ≤ length xs
  pub are : now ≡ take first xs ++ (map f (take (at - first) (drop first xs)) ++ drop (at - first) (drop first xs))

module _ {X : Type 0} (f : X → X) (xs : List X) (first : ℕ) (some : first ≤ length xs) where
  left : length (take first xs) ≡ first
  left = length-take-le first xs some

  module _ (at : ℕ) (now : List X) (d : X) (inside : at < length xs) (c : ChangedTo f xs first at now) where
    further : at - first < length (drop first xs)
    further = omega (arith, length-drop first xs, c.following)

    still : get_or now at d ≡ get_or (drop first xs) (at - first) d
    still =
        ap (λ ys. get_or ys at d) c.are
        ∙ get_or-append_right (take first xs) (map f (take (at - first) (drop first xs)) ++ drop (at - first) (drop first xs)) first at d left c.following
        ∙ unchanged_there f (drop first xs) (at - first) d further

    pub changed_on : (v : X) → v ≡ f (get_or now at d) → ChangedTo f xs first (at + 1) (set now at v)
    changed_on v w = record {
      following = omega (arith, c.following);
      inside = omega (arith, inside);
      are = ap (λ ys. set ys at v) c.are
          ∙ set-append_right (take first xs) (map f (take (at - first) (drop first xs)) ++ drop (at - first) (drop first xs)) first at v left c.following
          ∙ ap (λ ys. take first xs ++ ys) (changed_there f (drop first xs) (at - first) (at + 1 - first) d v further (omega (arith, c.following)) (w ∙ ap f still));
    }
