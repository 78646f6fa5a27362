-- Defines the state of a stream, a device with both directions, and the record of what its calls did.
-- Rule: none; used in the contracts of `Stream`.
use Rattle.std.specs.Prelude.{◌≡◌, ℕ, List, [], ◌∷◌, ◌++◌, Bool, true, false, take, Option, None, Some, Result, Ok, Err, ⊤}
use Rattle.std.specs.Borrow.{GName}
use Rattle.std.specs.List.{flat_map, fold}
use Rattle.ob0_session.specs.Devices.{ReadStatistics}

-- ---- what the calls of a stream did

-- One thing that a call of a stream did.
pub data StreamStep : Type 0 where
  -- A read begins. It may wait for input until it ends.
  read_begins : StreamStep
  -- The read gives these bytes. It gives none only at the end of the input or if the buffer is
  -- empty.
  read_gives : List ℕ → StreamStep
  read_fails : StreamStep
  -- A write takes these bytes.
  writes : List ℕ → StreamStep
  write_fails : StreamStep
  -- A flush succeeds.
  flushes : StreamStep
  flush_fails : StreamStep

-- Returns the bytes that a read gives in this step. Other steps give none.
abbrev pub bytes_given_by : StreamStep → List ℕ
bytes_given_by (read_gives bytes) = bytes
bytes_given_by step = []

-- Returns the bytes that a write takes in this step. Other steps take none.
abbrev pub bytes_written_by : StreamStep → List ℕ
bytes_written_by (writes bytes) = bytes
bytes_written_by step = []

-- Returns whether everything written is flushed after this step. `flushed` says whether it was
-- before.
abbrev pub is_flushed_after : Bool → StreamStep → Bool
is_flushed_after flushed (writes bytes) = false
is_flushed_after flushed write_fails = false
is_flushed_after flushed flushes = true
is_flushed_after flushed step = flushed

-- Returns all bytes that reads gave.
abbrev pub bytes_given : List StreamStep → List ℕ
bytes_given steps = flat_map bytes_given_by steps

-- Returns all bytes that writes took.
abbrev pub bytes_written : List StreamStep → List ℕ
bytes_written steps = flat_map bytes_written_by steps

-- Returns whether everything that these steps wrote is flushed: no write comes after the last flush
-- that succeeds.
abbrev pub is_all_flushed : List StreamStep → Bool
is_all_flushed steps = fold is_flushed_after true steps

-- ---- the state of a stream

-- The state of a stream's input: the bytes that it has left to give, or None if they aren't known;
-- statistics about its reads; and whether a read has failed.
pub record InputState : Type 0 where
  pub remaining : Option (List ℕ)
  pub reads : ReadStatistics
  pub has_failed : Bool

-- The state of a stream's output: the bytes that were written to it, or None if they aren't known;
-- whether everything written is flushed; and whether a write or a flush has failed.
pub record OutputState : Type 0 where
  pub contents : Option (List ℕ)
  pub is_flushed : Bool
  pub has_failed : Bool

-- The state of a stream: its input and its output; what its calls did, or None if that isn't known;
-- and the names of the references that it holds, which no call changes.
pub record StreamState : Type 0 where
  pub input : InputState
  pub output : OutputState
  pub steps : Option (List StreamStep)
  pub references : List GName

-- Returns the state of a stream that doesn't record what its calls do.
abbrev pub unrecorded_state : InputState → OutputState → List GName → StreamState
unrecorded_state input output references =
    record { input = input; output = output; steps = None; references = references }

-- States that the record `old` grows by these steps to the record `new`. A stream may lose its record,
-- as when it has no more memory for it: then the record isn't known (None), now and after later calls.
abbrev pub Records : Option (List StreamStep) → Option (List StreamStep) → List StreamStep → Type 0
Records None new steps = new ≡ None
Records (Some before) None steps = ⊤
Records (Some before) (Some after) steps = after ≡ before ++ steps

-- Returns the steps of a read with this result. `buf` is the buffer after the read.
abbrev pub steps_of_read : {E : Type 0} → Result ℕ E → List ℕ → List StreamStep
steps_of_read (Ok count) buf = read_begins ∷ read_gives (take count buf) ∷ []
steps_of_read (Err fault) buf = read_begins ∷ read_fails ∷ []

-- Returns the steps of a write of the bytes `buf` with this result.
abbrev pub steps_of_write : {E : Type 0} → Result ℕ E → List ℕ → List StreamStep
steps_of_write (Ok count) buf = writes (take count buf) ∷ []
steps_of_write (Err fault) buf = write_fails ∷ []

-- Returns the steps of a flush with this result.
abbrev pub steps_of_flush : {D E : Type 0} → Result D E → List StreamStep
steps_of_flush (Ok done) = flushes ∷ []
steps_of_flush (Err fault) = flush_fails ∷ []
