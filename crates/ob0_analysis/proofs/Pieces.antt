-- Proves that extending a common prefix or suffix of two texts by one equal piece gives a longer
-- common prefix or suffix.
use Rattle.std.proofs.Common.{◌≡◌, ◌∙◌, ◌+◌, ◌-◌, ◌≤◌, ℕ, zero, suc, List, [], ◌∷◌, ◌++◌, length, take, drop, refl, sym, ap, arith}
use Rattle.std.proofs.lemmas.List.{take-append-drop, drop-drop}

abbrev Bytes : Type 0
Bytes = List ℕ

further : (count n all : ℕ) (xs : Bytes) → all ≡ count + n → take all xs ≡ take count xs ++ take n (drop count xs)
further zero n all xs e = ap (λ k. take k xs) (e ∙ omega arith)
further (suc count) n zero xs e = absurd (omega (arith, e))
further (suc count) zero (suc all) [] e = refl
further (suc count) (suc n) (suc all) [] e = refl
further (suc count) n (suc all) (x ∷ xs) e = ap (λ l. x ∷ l) (further count n all xs (omega (arith, e)))

pub in_front : (a b : Bytes) (count n : ℕ) → take count a ≡ take count b → take n (drop count a) ≡ take n (drop count b) → take (count + n) a ≡ take (count + n) b
in_front a b count n before piece = further count n _ a refl ∙ (λ i. before i ++ piece i) ∙ sym (further count n _ b refl)

drop_further : (xs : Bytes) (count n : ℕ) → count + n ≤ length xs → drop (length xs - (count + n)) xs ≡ take n (drop (length xs - (count + n)) xs) ++ drop (length xs - count) xs
drop_further xs count n h =
    let at = length xs - (count + n) in
    let next : at + n ≡ length xs - count = omega (arith, h) in
    sym (take-append-drop n (drop at xs)) ∙ ap (λ l. take n (drop at xs) ++ l) (drop-drop n at xs ∙ ap (λ k. drop k xs) next)

pub following : (a b : Bytes) (count n : ℕ) → count + n ≤ length a → count + n ≤ length b → drop (length a - count) a ≡ drop (length b - count) b
    → take n (drop (length a - (count + n)) a) ≡ take n (drop (length b - (count + n)) b) → drop (length a - (count + n)) a ≡ drop (length b - (count + n)) b
following a b count n in_a in_b before piece = drop_further a count n in_a ∙ (λ i. piece i ++ before i) ∙ sym (drop_further b count n in_b)
