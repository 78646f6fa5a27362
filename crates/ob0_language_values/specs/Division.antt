-- Defines the results of DIV and MOD.
-- Rule: docs/LANGUAGE.md, Runs 3.
use Rattle.std.specs.Prelude.{ℕ, zero, suc, ◌-◌, ◌/◌, ◌%◌, ℤ, pos, negsuc, Option, Some, None}

-- returns the quotient of a number divided by `b` (DIV), rounded down; `b` must be above 0
abbrev pub quotient : ℤ → ℕ → ℤ
quotient (pos a) b = pos (a / b)
quotient (negsuc a) b = negsuc (a / b)

-- returns the remainder of a number divided by `b` (MOD), which is never negative; `b` must be
-- above 0
abbrev pub remainder : ℤ → ℕ → ℤ
remainder (pos a) b = pos (a % b)
remainder (negsuc a) b = pos (b - suc (a % b))

-- applies the function `result`, which computes a quotient or a remainder, to `a` and a divisor;
-- returns None if the divisor is below 1
abbrev pub checked_division : (ℤ → ℕ → ℤ) → ℤ → ℤ → Option ℤ
checked_division result a (pos zero) = None
checked_division result a (pos (suc b)) = Some (result a (suc b))
checked_division result a (negsuc b) = None
