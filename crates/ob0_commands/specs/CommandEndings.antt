-- Defines how a command on a file ends: its status, its output and its lines on standard error. If
-- the status is 0 or 1, the file is UTF-8 or too long. In that case, the failure flags of the
-- output and the input are unchanged. Any other status is the exit status of a fault.
-- `FaultMayStopCommandOnFile` and `FaultMayStopRun` state when a fault may stop a command. The
-- output of a run is printed only if the bytes of its input are a list of numbers
-- (`IsValidInputTextOfNumbers`) or aren't known. Status 5 (out of memory) is possible for any
-- input, but only for a file that isn't too long (`MemoryFaultImpliesShortFile`). For a file that
-- is too long, the commands allocate nothing. Each command prints after its last allocation. So a
-- fault other than `Write` leaves the output unchanged (`PrintsNothingUnlessWriteFault`).
-- Rule: docs/PROTOCOL.md, The program 5 to 8.
use Rattle.std.specs.Prelude.{◌≡◌, ◌≤◌, ℕ, List, Option, Some, Bool}
use Rattle.ob0_commands.specs.PrintedTexts.{fault_line}
use Rattle.ob0_commands.specs.Statuses.{MemoryFaultImpliesShortFile, OutputFailureMatchesFault, PrintsNothingUnlessWriteFault, exit_status_of_fault}
use Rattle.ob0_commands.specs.declared.faults.FileCommandFault.{FileCommandFault}

-- States that no fault stops the command: it ends with status 0 or 1. The parameter `Good` holds
-- with status 0, `Other` holds with status 1, and `Both` holds with either status.
pub record EndsWithoutFault (Good Other Both : Type 0) (status : ℕ) : Type 0 where
  pub status_at_most_one : status ≤ 1
  pub good : status ≡ 0 → Good
  pub other : status ≡ 1 → Other
  pub both : Both

-- States that a fault ends the command with this status, which is the fault's exit status. `Stops`,
-- the condition under which a fault may stop this command, holds for the fault. The fault's line is
-- printed on standard error (`IsPrintedOnStderr`). If the fault is `Write`, the output has failed.
-- With any other fault, the output is unchanged. The fault is `Memory` only if the file isn't too
-- long.
pub record EndsByFault {O : Type 0} (has_failed : O → Bool) (before after : O) (file : List ℕ)
    (Stops : FileCommandFault → Type 0) (IsPrintedOnStderr : Option (List ℕ) → Type 0) (status : ℕ) : Type 0 where
  pub ending_fault : FileCommandFault
  pub is : status ≡ exit_status_of_fault ending_fault
  pub stops : Stops ending_fault
  pub failed : OutputFailureMatchesFault (has_failed before) (has_failed after) ending_fault
  pub kept : PrintsNothingUnlessWriteFault before after ending_fault
  pub memory : MemoryFaultImpliesShortFile file ending_fault
  pub said : IsPrintedOnStderr (Some (fault_line ending_fault))
