-- Defines the address of each place and the value of each INTEGER or BOOLEAN expression of lowered
-- code. Both depend on the activations that the running code can see, and on the cells.
-- Rule: docs/LANGUAGE.md, Runs 2 to 4.
use Rattle.std.specs.Prelude.{ℕ, suc, zero, ◌+◌, ◌*◌, ◌%◌, ◌^◌, Bool, true, false, not, ◌&&◌, List, [], ◌∷◌, Option, None, Some, ℤ, pos, negsuc, ◌+ℤ◌, ◌-ℤ◌, ◌*ℤ◌, neg_ℤ, if◌then◌else◌, nat_lt, slice_index_or, int_lt, int_le, drop}
use Rattle.ob0_language_values.specs.Division as division
use Rattle.ob0_language_values.specs.Division.{checked_division}
pub use Rattle.ob0_language_values.specs.Values.{fits_in_32_bits, same_truth}
use Rattle.ob0_run_machine.specs.LoweredSyntax.{Place, in_module, in_own_activation, outside, passed, element, Number, literal, cell, negative, operation, Operator, sum, difference, product, quotient, remainder, Comparator, equal, not_equal, less, less_equal, greater, greater_equal, Truth, constant, flag, negation, both, either, related, same, different}

infixl 20 ◌>>=◌
-- The way in which a run ends: Done after its last statement, or the reason why it stops earlier.
pub data MachineEnd : Type 0 where
  Done Overflow Divisor Index InputEnd CallBound TurnBound : MachineEnd

-- The outcome of an evaluation: a value (`gives`), or the end of the run if the evaluation has a
-- fault (`ends`).
pub data StepResult (A : Type 0) : Type 0 where
  gives : A → StepResult A
  ends : MachineEnd → StepResult A

-- Applies `next` to the value of an evaluation. If the evaluation ends the run, returns this end.
abbrev pub ◌>>=◌ : {A B : Type 0} → StepResult A → (A → StepResult B) → StepResult B
◌>>=◌ (gives a) next = next a
◌>>=◌ (ends e) next = ends e

-- an activation: the address of its first cell, and the addresses that were passed for its VAR
-- parameters
pub record Level : Type 0 where
  pub base : ℕ
  pub addresses : List ℕ

-- The activations that running code can see, as a list. The running activation is first. The
-- procedure of each activation is declared in the activation that comes next in the list.
abbrev pub Levels : Type 0
Levels = List Level

-- returns the first activation of a list, or an activation with base 0 and no addresses if the list
-- is empty
abbrev pub innermost_level : Levels → Level
innermost_level [] = record { base = 0; addresses = [] }
innermost_level (l ∷ ls) = l

-- Returns the activation `up` levels out from the first one of a list, which is the first one
-- itself if `up` is 0. If the list is too short, returns an activation with base 0 and no
-- addresses.
abbrev pub level_at : Levels → ℕ → Level
level_at ls up = innermost_level (drop up ls)

-- Returns the address that is `offset` cells after an address. The sum wraps at 64 bits.
abbrev pub add_offset : ℕ → ℕ → ℕ
add_offset address offset = (address + offset) % 2 ^ 64

-- Returns the address of an array's element, given the address of the array's first element. The
-- array has `length` elements of `stride` cells each. The run ends with Index if the index is
-- negative or not below the length.
abbrev pub element_address : ℕ → ℕ → ℕ → ℤ → StepResult ℕ
element_address address length stride (pos i) =
    if nat_lt i length then gives (add_offset address (i * stride)) else ends Index
element_address address length stride (negsuc i) = ends Index

-- returns the number in the cell at an address, or 0 if there is no such cell
abbrev pub cell_at : List ℤ → ℕ → ℤ
cell_at cells address = slice_index_or cells address (pos 0)

-- Returns a number as an outcome. The run ends with Overflow if the number has more than 32 bits.
abbrev pub checked_number : ℤ → StepResult ℤ
checked_number n = if fits_in_32_bits n then gives n else ends Overflow

-- Returns the result of a division as an outcome. None, which is the result for a divisor below 1,
-- ends the run with Divisor. A number of more than 32 bits ends the run with Overflow.
abbrev pub division_outcome : Option ℤ → StepResult ℤ
division_outcome None = ends Divisor
division_outcome (Some n) = checked_number n

-- returns the outcome of an operator on two numbers: a number of 32 bits, or the end Overflow or
-- Divisor
abbrev pub apply_operator : Operator → ℤ → ℤ → StepResult ℤ
apply_operator sum a b = checked_number (a +ℤ b)
apply_operator difference a b = checked_number (a -ℤ b)
apply_operator product a b = checked_number (a *ℤ b)
apply_operator quotient a b = division_outcome (checked_division division.quotient a b)
apply_operator remainder a b = division_outcome (checked_division division.remainder a b)

abbrev mutual
  -- Returns the address of a place. The run ends with a fault if the evaluation of an index in the
  -- place fails, or if the index is outside its array.
  pub place_address : Levels → List ℤ → Place → StepResult ℕ
  place_address ls cells (in_module offset) = gives offset
  place_address ls cells (in_own_activation offset) = gives (add_offset (innermost_level ls).base offset)
  place_address ls cells (outside up offset) = gives (add_offset (level_at ls up).base offset)
  place_address ls cells (passed up index offset) =
      gives (add_offset (slice_index_or (level_at ls up).addresses index 0) offset)
  place_address ls cells (element p i length stride offset) =
      place_address ls cells p >>= (λ a. number_value ls cells i >>= element_address (add_offset a offset) length stride)

  -- Returns the value of an expression that is a `Number`. If an operation or an index in the
  -- expression has a fault, the run ends with the first such fault.
  pub number_value : Levels → List ℤ → Number → StepResult ℤ
  number_value ls cells (literal n) = gives n
  number_value ls cells (cell p) = place_address ls cells p >>= (λ a. gives (cell_at cells a))
  number_value ls cells (negative n) = number_value ls cells n >>= (λ a. checked_number (neg_ℤ a))
  number_value ls cells (operation o m n) = number_value ls cells m >>= (λ a. number_value ls cells n >>= apply_operator o a)

-- returns whether a relation holds between two numbers
abbrev pub compare : Comparator → ℤ → ℤ → Bool
compare equal a b = int_le a b && int_le b a
compare not_equal a b = not (int_le a b && int_le b a)
compare less a b = int_lt a b
compare less_equal a b = int_le a b
compare greater a b = int_lt b a
compare greater_equal a b = int_le b a

-- returns the truth value that is stored in a cell: FALSE for 0, TRUE for any other number
abbrev pub is_cell_true : ℤ → Bool
is_cell_true (pos zero) = false
is_cell_true (pos (suc n)) = true
is_cell_true (negsuc n) = true

-- returns the number that is stored in a cell for a truth value: 0 for FALSE, 1 for TRUE
abbrev pub truth_as_cell : Bool → ℤ
truth_as_cell false = pos 0
truth_as_cell true = pos 1

-- Returns the value of an expression that is a `Truth`. The right side of `both` or `either` is
-- evaluated only if the left side doesn't decide the value. The run ends with the first fault that
-- occurs.
abbrev pub truth_value : Levels → List ℤ → Truth → StepResult Bool
truth_value ls cells (constant b) = gives b
truth_value ls cells (flag p) = place_address ls cells p >>= (λ a. gives (is_cell_true (cell_at cells a)))
truth_value ls cells (negation t) = truth_value ls cells t >>= (λ a. gives (not a))
truth_value ls cells (both t u) = truth_value ls cells t >>= (λ a. if a then truth_value ls cells u else gives false)
truth_value ls cells (either t u) = truth_value ls cells t >>= (λ a. if a then gives true else truth_value ls cells u)
truth_value ls cells (related r m n) =
    number_value ls cells m >>= (λ a. number_value ls cells n >>= (λ b. gives (compare r a b)))
truth_value ls cells (same t u) =
    truth_value ls cells t >>= (λ a. truth_value ls cells u >>= (λ b. gives (same_truth a b)))
truth_value ls cells (different t u) =
    truth_value ls cells t >>= (λ a. truth_value ls cells u >>= (λ b. gives (not (same_truth a b))))
