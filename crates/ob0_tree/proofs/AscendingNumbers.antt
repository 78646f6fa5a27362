-- Proves laws about lists of ascending numbers, of numbers below a limit, and of numbers at or
-- above a limit.
use Rattle.std.proofs.Common.{◌≡◌, ◌<◌, ◌≤◌, ℕ, ◌+◌, List, [], ◌∷◌, ◌++◌, arith}
use Rattle.std.proofs.lemmas.List.{map-append}
use Rattle.ob0_tree.specs.declared.tree.Role.{Role}
use Rattle.ob0_tree.specs.IdentifierIndexes.{AreAscendingWithin, names_without_roles}
use Rattle.ob0_tree.proofs.Leaves.{ascending_bounds, ascending_lower}

pub ascend_first : (low : ℕ) (xs ys : List ℕ) (high : ℕ) → AreAscendingWithin low (xs ++ ys) high → AreAscendingWithin low xs high
ascend_first low [] ys high h = ascending_bounds low ys high h
ascend_first low (x ∷ xs) ys high h = (h.0, ascend_first (x + 1) xs ys high h.1)

pub ascend_second : (low : ℕ) (xs ys : List ℕ) (high : ℕ) → AreAscendingWithin low (xs ++ ys) high → AreAscendingWithin low ys high
ascend_second low [] ys high h = h
ascend_second low (x ∷ xs) ys high h = ascending_lower low (x + 1) ys high (omega (arith, h.0)) (ascend_second (x + 1) xs ys high h.1)

pub ascend_past : (from : ℕ) (xs : List ℕ) (y : ℕ) (ys : List ℕ) (to : ℕ) → AreAscendingWithin from (xs ++ (y ∷ ys)) to → AreAscendingWithin (y + 1) ys to
ascend_past from [] y ys to h = h.1
ascend_past from (x ∷ xs) y ys to h = ascend_past (x + 1) xs y ys to h.1

pub leaves_append : (xs ys : List (Role × ℕ)) → names_without_roles (xs ++ ys) ≡ names_without_roles xs ++ names_without_roles ys
leaves_append xs ys = map-append (λ (x : Role × ℕ). x.1) xs ys

-- ---- numbers below a limit

abbrev pub AllBelow : ℕ → List ℕ → Type 0
AllBelow n [] = Unit {0}
AllBelow n (i ∷ is) = (i < n) × AllBelow n is

pub below_first : (n : ℕ) (xs ys : List ℕ) → AllBelow n (xs ++ ys) → AllBelow n xs
below_first n [] ys h = tt
below_first n (x ∷ xs) ys h = (h.0, below_first n xs ys h.1)

pub below_second : (n : ℕ) (xs ys : List ℕ) → AllBelow n (xs ++ ys) → AllBelow n ys
below_second n [] ys h = h
below_second n (x ∷ xs) ys h = below_second n xs ys h.1

pub below_more : (n m : ℕ) (xs : List ℕ) → n ≤ m → AllBelow n xs → AllBelow m xs
below_more n m [] le h = tt
below_more n m (x ∷ xs) le h = (omega (arith, le, h.0), below_more n m xs le h.1)

-- In an ascending list, the numbers before y are below y.
pub before_one : (low : ℕ) (xs : List ℕ) (y : ℕ) (ys : List ℕ) (high : ℕ) → AreAscendingWithin low (xs ++ (y ∷ ys)) high → AllBelow y xs
before_one low [] y ys high h = tt
before_one low (x ∷ xs) y ys high h =
    let later = ascend_second (x + 1) xs (y ∷ ys) high h.1 in
    (omega (arith, later.0), before_one (x + 1) xs y ys high h.1)

pub ascending_below : (low : ℕ) (xs : List ℕ) (high : ℕ) → AreAscendingWithin low xs high → (low ≤ high) × AllBelow high xs
ascending_below low [] high h = (h, tt)
ascending_below low (x ∷ xs) high h =
    let later = ascending_below (x + 1) xs high h.1 in
    (omega (arith, h.0, later.0), (omega (arith, later.0), later.1))

-- ---- numbers at or above a limit

abbrev pub AllFrom : ℕ → List ℕ → Type 0
AllFrom n [] = Unit {0}
AllFrom n (i ∷ is) = (n ≤ i) × AllFrom n is

pub from_less : (n m : ℕ) (xs : List ℕ) → n ≤ m → AllFrom m xs → AllFrom n xs
from_less n m [] le h = tt
from_less n m (x ∷ xs) le h = (omega (arith, le, h.0), from_less n m xs le h.1)

pub from_first : (n : ℕ) (xs ys : List ℕ) → AllFrom n (xs ++ ys) → AllFrom n xs
from_first n [] ys h = tt
from_first n (x ∷ xs) ys h = (h.0, from_first n xs ys h.1)

pub from_second : (n : ℕ) (xs ys : List ℕ) → AllFrom n (xs ++ ys) → AllFrom n ys
from_second n [] ys h = h
from_second n (x ∷ xs) ys h = from_second n xs ys h.1

pub ascending_from : (low : ℕ) (xs : List ℕ) (high : ℕ) → AreAscendingWithin low xs high → AllFrom low xs
ascending_from low [] high h = tt
ascending_from low (x ∷ xs) high h = (h.0, from_less low (x + 1) xs (omega (arith, h.0)) (ascending_from (x + 1) xs high h.1))
