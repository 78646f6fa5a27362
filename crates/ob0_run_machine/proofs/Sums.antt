-- Proves when the sum or the product of two numbers of 32 bits, computed in 64 bits, fits in 32 bits.
use Rattle.std.proofs.Common.{◌≡◌, ℕ, suc, arith, ℤ, pos, negsuc, ◌+ℤ◌, ◌*ℤ◌, ◌-◌, ◌≤◌, ◌≤ℤ◌, ◌<◌, FitsSigned, w32, w64, of_z, to_z, ap, subst, ◌∙◌}
use Rattle.std.specs.Prelude.{false, int_lt, unsigned_abs}
use borrow.Author.Tests.{ltb-false}
use Rattle.std.proofs.Math.Facts.{to_z-of_z}
use Rattle.std.proofs.lemmas.Int.{fits_signed_mul, ints}

-- If a number is at least -2^32 and its unsigned value in 64 bits fits in 32 bits, the number itself
-- is from 0 to 2^32 - 1.
near : (z : ℤ) → negsuc 4294967295 ≤ℤ z → of_z w64 z ≤ 4294967295 → (pos 0 ≤ℤ z) × (z ≤ℤ pos 4294967295)
near (pos n) low few = (omega (arith, ints), omega (arith, ints, few))
near (negsuc n) low few = let large : 18446744073709551616 - suc n ≤ 4294967295 = few in absurd (omega (arith, ints, large, low))

fits : (z : ℤ) → (pos 0 ≤ℤ (z +ℤ pos 2147483648)) × ((z +ℤ pos 2147483648) ≤ℤ pos 4294967295) → FitsSigned w32 z
fits (pos n) h = let small : n < 2147483648 = omega (arith, ints, h.1) in record { sfits = small }
fits (negsuc n) h = let small : n < 2147483648 = omega (arith, ints, h.0) in record { sfits = small }

bounded : (z : ℤ) → negsuc 8589934591 ≤ℤ z → z ≤ℤ pos 8589934591 → FitsSigned w64 z
bounded (pos n) low high = let small : n < 9223372036854775808 = omega (arith, ints, high) in record { sfits = small }
bounded (negsuc n) low high = let small : n < 9223372036854775808 = omega (arith, ints, low) in record { sfits = small }

-- A sum fits in 32 bits if its distance from the least number fits in 32 unsigned bits.
pub fits_by : (l r x : ℤ) (d : ℕ) → FitsSigned w32 l → FitsSigned w32 r → d ≡ of_z w64 x → x ≡ l +ℤ r +ℤ pos 2147483648 → d ≤ 4294967295 → FitsSigned w32 (l +ℤ r)
fits_by l r x d a b e is few =
    let near_least = near (l +ℤ r +ℤ pos 2147483648) (omega (arith, ints, a.sfits, b.sfits)) (subst (λ x. of_z w64 x ≤ 4294967295) is (subst (λ d. d ≤ 4294967295) e few)) in
    fits (l +ℤ r) near_least

-- The sum of two numbers of 32 bits fits in 64 bits. Its distance from the least number also fits.
pub wide : (l r : ℤ) → FitsSigned w32 l → FitsSigned w32 r → FitsSigned w64 (l +ℤ r) × FitsSigned w64 (l +ℤ r +ℤ pos 2147483648)
wide l r a b = (bounded (l +ℤ r) (omega (arith, ints, a.sfits, b.sfits)) (omega (arith, ints, a.sfits, b.sfits)), bounded (l +ℤ r +ℤ pos 2147483648) (omega (arith, ints, a.sfits, b.sfits)) (omega (arith, ints, a.sfits, b.sfits)))

size : (z : ℤ) → FitsSigned w32 z → unsigned_abs z ≤ 2147483648
size (pos n) f = let small : n < 2147483648 = f.sfits in omega (arith, small)
size (negsuc n) f = let small : n < 2147483648 = f.sfits in omega (arith, small)

-- The product of two numbers of 32 bits fits in 64 bits.
pub product_wide : (l r : ℤ) → FitsSigned w32 l → FitsSigned w32 r → FitsSigned w64 (l *ℤ r)
product_wide l r a b = fits_signed_mul w64 l r 2147483648 2147483648 (size l a) (size r b) (omega arith)

within : (z : ℤ) → int_lt (pos 2147483647) z ≡ false → int_lt z (negsuc 2147483647) ≡ false → FitsSigned w32 z
within (pos n) high low = let small : n < 2147483648 = omega (arith, ltb-false 2147483647 n high) in record { sfits = small }
within (negsuc n) high low = let small : n < 2147483648 = omega (arith, ltb-false 2147483647 n low) in record { sfits = small }

-- A number between the limits of 32 bits fits in them, and keeps its value there.
pub narrowed : (z p : ℤ) → p ≡ z → int_lt (pos 2147483647) p ≡ false → int_lt p (negsuc 2147483647) ≡ false → FitsSigned w32 z × (to_z w32 (of_z w32 p) ≡ z)
narrowed z p e high low =
    let f : FitsSigned w32 z = within z (subst (λ p. int_lt (pos 2147483647) p ≡ false) e high) (subst (λ p. int_lt p (negsuc 2147483647) ≡ false) e low) in
    (f, ap (λ p. to_z w32 (of_z w32 p)) e ∙ to_z-of_z f)
