-- Makes values of the code's types (lists, texts and boxes) for proofs, without running code.
use Rattle.std.proofs.Common.{◌≤◌, ℕ, List, [], ◌∷◌, Vec, Box, String, length, refl, arith}
use Rattle.std.specs.Str.{IsUtf8}
use Rattle.std.specs.declared.alloc.Global.{Global}
use denote.RawPtr.{null_ptr}

abbrev pub heap : Global
heap = record { memory = record { seal = tt } }

abbrev pub vec_of : {A : Type 0} (xs : List A) → length xs ≤ 1048576 → Vec A Global
vec_of xs short = record { ptr = null_ptr; len = length xs; cap = length xs; alloc = heap; items = xs; ok = (refl, omega (arith)); small = omega (arith, short) }

abbrev pub none_of : {A : Type 0} → Vec A Global
none_of = vec_of [] (omega (arith))

abbrev pub one_of : {A : Type 0} → A → Vec A Global
one_of x = vec_of (x ∷ []) (omega (arith))

abbrev pub two_of : {A : Type 0} → A → A → Vec A Global
two_of x y = vec_of (x ∷ y ∷ []) (omega (arith))

abbrev pub boxed : {A : Type 0} → A → Box A Global
boxed x = record { ptr = null_ptr; alloc = heap; value = x }

abbrev pub string_of : (bytes : List ℕ) → IsUtf8 bytes → length bytes ≤ 1048576 → String Global
string_of bytes u short = record { bytes = vec_of bytes short; ok = ∣ u ∣₁ }
