-- Defines the two parts of a `TrackedReader`: the wrapped reader, and whether a read has failed.
-- Also defines when at most `n` bytes have been read from a reader.
-- Rule: none; used in the contracts of functions that read from a `TrackedInput`.
use Rattle.std.specs.Prelude.{◌≤◌, ℕ, List, Option, Bool, length}
use Rattle.std.specs.Io.KnownBytes.{Consumes}
use Rattle.ob0_commands.specs.declared.tracked_input.TrackedReader.{TrackedReader}

-- Returns the reader that a `TrackedReader` wraps.
abbrev pub wrapped_reader : {R : Type 0} → TrackedReader R → R
wrapped_reader input = input.device

-- Returns whether a read of this `TrackedReader` has failed.
abbrev pub has_input_failed : {R : Type 0} → TrackedReader R → Bool
has_input_failed input = input.has_failed

-- States that at most `n` bytes were read from a reader. `before` and `after` are the reader's
-- remaining bytes before and after the read. If these bytes aren't known (None), nothing is stated
-- about them.
pub record ConsumesAtMost (n : ℕ) (before after : Option (List ℕ)) : Type 0 where
  pub bytes : List ℕ
  pub taken : Consumes before after bytes
  pub at_most_n : length bytes ≤ n
