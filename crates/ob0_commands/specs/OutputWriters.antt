-- Defines the parts of a `TrackedWriter`: the wrapped writer, whether it has been flushed since the
-- last write, and whether it has failed.
-- Rule: none; used in the contracts of functions that print to a `TrackedOutput`.
use Rattle.std.specs.Prelude.{◌≡◌, ◌⊎◌, Bool, true}
use Rattle.ob0_commands.specs.declared.tracked_output.TrackedWriter.{TrackedWriter}

-- Returns the writer that a `TrackedWriter` wraps.
abbrev pub wrapped_writer : {W : Type 0} → TrackedWriter W → W
wrapped_writer output = output.device

-- Returns whether a call of `flush_noting_result` has succeeded since the last write. A call of
-- `write_all_noting_failure` without any bytes doesn't count as a write.
abbrev pub has_flushed : {W : Type 0} → TrackedWriter W → Bool
has_flushed output = output.has_flushed

-- Returns whether a call of `write_all_noting_failure` or `flush_noting_result` has failed.
abbrev pub has_output_failed : {W : Type 0} → TrackedWriter W → Bool
has_output_failed output = output.has_failed

-- States that the writer is flushed (`is_flushed`), or that it is unchanged.
abbrev pub IsFlushedOrUnchanged : {O : Type 0} → (is_flushed : Bool) (before after : O) → Type 0
IsFlushedOrUnchanged is_flushed before after = (is_flushed ≡ true) ⊎ (after ≡ before)
