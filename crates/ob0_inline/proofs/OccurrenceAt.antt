-- Proves that binary search finds the occurrence at a token, because the tokens of occurrences
-- ascend. Binary search finds the same as linear search (`halved`). The occurrence is looked up
-- last, when the name is known to be a constant's.
use Rattle.std.proofs.Common.{◌≡◌, ◌≢◌, ℕ, zero, suc, ◌+◌, ◌<◌, ◌≤◌, ◌==◌, Bool, true, false, cond, Some, None, Result, Ok, Err, List, [], ◌∷◌, length, get_or, refl, sym, ap, ◌∙◌, eq-eqb, arith}
use Rattle.std.specs.Prelude.{nat_lt}
use Rattle.std.specs.Result.{result_ok}
use Rattle.std.specs.List.{position_from}
use Rattle.std.specs.List.Sorted.{IsBinarySearchResult}
use Rattle.std.specs.Ordering.{nat_cmp}
use Rattle.std.proofs.lemmas.Bool.{ltb-false, ltb-true}
use Rattle.std.proofs.lemmas.List.Sorted.{searched}
use Rattle.ob0_tree.specs.IdentifierIndexes.{AreAscendingWithin}
use Rattle.ob0_inline.proofs.UsesAreIdentifiers.{not_equal}

-- Each of some ascending numbers is at least the lower bound.
at_least : (low high : ℕ) (is : List ℕ) (k : ℕ) → AreAscendingWithin low is high → k < length is → low ≤ get_or is k 0
at_least low high [] k a less = absurd (omega (arith, less))
at_least low high (i ∷ is) zero a less = a.0
at_least low high (i ∷ is) (suc k) a less = let more = at_least (i + 1) high is k a.1 (omega (arith, less)) in omega (arith, a.0, more)

rises : (low high : ℕ) (is : List ℕ) → AreAscendingWithin low is high → (j k : ℕ) → j ≤ k → k < length is → get_or is j 0 ≤ get_or is k 0
rises low high [] a j k le less = absurd (omega (arith, less))
rises low high (i ∷ is) a zero zero le less = omega arith
rises low high (i ∷ is) a zero (suc k) le less = let more = at_least (i + 1) high is k a.1 (omega (arith, less)) in omega (arith, more)
rises low high (i ∷ is) a (suc j) zero le less = absurd (omega (arith, le))
rises low high (i ∷ is) a (suc j) (suc k) le less = rises (i + 1) high is a.1 j k (omega (arith, le)) (omega (arith, less))

-- A number among ascending ones isn't at an earlier index as well.
is_first : (low high : ℕ) (is : List ℕ) (token j k : ℕ) → AreAscendingWithin low is high → k < length is → get_or is k 0 ≡ token → position_from (λ i. i == token) j is ≡ Some (j + k)
is_first low high [] token j k a less e = absurd (omega (arith, less))
is_first low high (i ∷ is) token j zero a less e =
    ap (λ b. cond b (Some j) (position_from (λ i. i == token) (j + 1) is)) (eq-eqb i token e) ∙ ap Some (omega arith)
is_first low high (i ∷ is) token j (suc k) a less e =
    let later = at_least (i + 1) high is k a.1 (omega (arith, less)) in
    let apart : i ≢ token = omega (arith, later, e) in
    ap (λ b. cond b (Some j) (position_from (λ i. i == token) (j + 1) is)) (not_equal i token apart)
    ∙ (is_first (i + 1) high is token (j + 1) k a.1 (omega (arith, less)) e ∙ ap Some (omega arith))

occurs_nowhere : (is : List ℕ) (token j : ℕ) → ((k : ℕ) → k < length is → get_or is k 0 ≢ token) → position_from (λ i. i == token) j is ≡ None
occurs_nowhere [] token j h = refl
occurs_nowhere (i ∷ is) token j h =
    ap (λ b. cond b (Some j) (position_from (λ i. i == token) (j + 1) is)) (not_equal i token (h 0 (omega arith)))
    ∙ occurs_nowhere is token (j + 1) (λ k less. h (suc k) (omega (arith, less)))

-- If all numbers before an index are less and all others are greater, no number is equal.
none_equal : (is : List ℕ) (token n : ℕ) → ((k : ℕ) → k < n → get_or is k 0 < token) → ((k : ℕ) → n ≤ k → k < length is → token < get_or is k 0) → (k : ℕ) → k < length is → get_or is k 0 ≢ token
none_equal is token n below above k less e = by_side (nat_lt k n) refl
  where
    by_side : (b : Bool) → nat_lt k n ≡ b → ⊥
    by_side true q = let under = below k (ltb-true k n q) in omega (arith, under, e)
    by_side false q = let over = above k (ltb-false k n q) less in omega (arith, over, e)

-- Binary search finds the same as linear search.
pub halved : (high : ℕ) (is : List ℕ) (token : ℕ) (r : Result ℕ ℕ) → AreAscendingWithin 0 is high → IsBinarySearchResult (λ i. nat_cmp i token) is r → result_ok r ≡ position_from (λ i. i == token) 0 is
halved high is token (Ok k) a h =
    let found = searched is token (Ok k) h (rises 0 high is a) in
    ap Some (omega arith) ∙ sym (is_first 0 high is token 0 k a found.0 found.1)
halved high is token (Err n) a h =
    let found = searched is token (Err n) h (rises 0 high is a) in
    sym (occurs_nowhere is token 0 (none_equal is token n found.1 found.2))
