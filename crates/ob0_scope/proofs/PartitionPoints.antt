-- Proves that the numbers of a list below a limit are those before a partition point, and that the
-- other numbers are those after it.
use Rattle.std.proofs.Common.{◌≡◌, ◌≤◌, ℕ, zero, suc, true, false, cond, nat_le, nat_lt, List, [], ◌∷◌, length, take, drop, refl, ap, ◌∙◌, arith}
use Rattle.std.proofs.lemmas.Bool.{le-leb, lt-leb, ltb-false, ltb-true}
use Rattle.std.specs.List.{filter}
use Rattle.std.specs.List.Sorted.{IsPartitionPoint}

-- states that exactly the first i numbers of a list are below n
abbrev Splits : ℕ → List ℕ → ℕ → Type 0
Splits n xs i = IsPartitionPoint (λ x. nat_lt x n ≡ true) (λ x. nat_lt x n ≡ false) xs i

next_zero : (n x : ℕ) (xs : List ℕ) → Splits n (x ∷ xs) zero → Splits n xs zero
next_zero n x xs point = (λ k d low less. absurd (omega (arith, less)), λ k d low less. point.1 (suc k) d (omega arith) (omega (arith, less)))

next_suc : (n x : ℕ) (xs : List ℕ) (i : ℕ) → Splits n (x ∷ xs) (suc i) → Splits n xs i
next_suc n x xs i point = (λ k d low less. point.0 (suc k) d (omega arith) (omega (arith, less)), λ k d low less. point.1 (suc k) d (omega (arith, low)) (omega (arith, less)))

-- states that a place in a list comes right after the numbers below n
pub record IsPointOf (n : ℕ) (xs : List ℕ) (i : ℕ) : Type 0 where
  pub inside : i ≤ length xs
  pub splits : Splits n xs i

ordered : (n m : ℕ) (xs : List ℕ) (i j : ℕ) → n ≤ m → i ≤ length xs → Splits n xs i → Splits m xs j → i ≤ j
ordered n m xs zero j le inside p q = omega arith
ordered n m [] (suc i) j le inside p q = absurd (omega (arith, inside))
ordered n m (x ∷ xs) (suc i) zero le inside p q =
    absurd (omega (arith, le, ltb-true x n (p.0 zero x (omega arith) (omega arith)), ltb-false x m (q.1 zero x (omega arith) (omega arith))))
ordered n m (x ∷ xs) (suc i) (suc j) le inside p q =
    let later = ordered n m xs i j le (omega (arith, inside)) (next_suc n x xs i p) (next_suc m x xs j q) in omega (arith, later)

-- The point of a smaller number isn't after the point of a greater one.
pub points_ordered : (n m : ℕ) (xs : List ℕ) (i j : ℕ) → n ≤ m → IsPointOf n xs i → IsPointOf m xs j → i ≤ j
points_ordered n m xs i j le p q = ordered n m xs i j le p.inside p.splits q.splits

pub front_of_point : (n : ℕ) (xs : List ℕ) (i : ℕ) → Splits n xs i → filter (λ x. nat_lt x n) xs ≡ take i xs
front_of_point n [] zero p = refl
front_of_point n [] (suc i) p = refl
front_of_point n (x ∷ xs) zero p = ap (λ b. cond b (x ∷ filter (λ x. nat_lt x n) xs) (filter (λ x. nat_lt x n) xs)) (p.1 zero x (omega arith) (omega arith)) ∙ front_of_point n xs zero (next_zero n x xs p)
front_of_point n (x ∷ xs) (suc i) p =
    ap (λ b. cond b (x ∷ filter (λ x. nat_lt x n) xs) (filter (λ x. nat_lt x n) xs)) (p.0 zero x (omega arith) (omega arith)) ∙ ap (λ ys. x ∷ ys) (front_of_point n xs i (next_suc n x xs i p))

pub rest_of_point : (n : ℕ) (xs : List ℕ) (i : ℕ) → Splits n xs i → filter (λ x. nat_le n x) xs ≡ drop i xs
rest_of_point n [] zero p = refl
rest_of_point n [] (suc i) p = refl
rest_of_point n (x ∷ xs) zero p =
    ap (λ b. cond b (x ∷ filter (λ x. nat_le n x) xs) (filter (λ x. nat_le n x) xs)) (le-leb n x (ltb-false x n (p.1 zero x (omega arith) (omega arith)))) ∙ ap (λ ys. x ∷ ys) (rest_of_point n xs zero (next_zero n x xs p))
rest_of_point n (x ∷ xs) (suc i) p =
    ap (λ b. cond b (x ∷ filter (λ x. nat_le n x) xs) (filter (λ x. nat_le n x) xs)) (lt-leb n x (ltb-true x n (p.0 zero x (omega arith) (omega arith)))) ∙ rest_of_point n xs i (next_suc n x xs i p)
