-- Defines the cap on the nesting depths that the code computes. The code adds levels in 32 bits
-- with saturation, so 2^32 - 1 stands for this depth and every greater one.
-- Rule: none; used in the contracts of the functions that compute nesting depths.
use Rattle.std.specs.Prelude.{ℕ, min}

-- Returns the number `n`, or 2^32 - 1 if `n` is larger.
abbrev pub capped_to_u32 : ℕ → ℕ
capped_to_u32 n = min n 4294967295
