-- Defines the exit statuses of the commands on files, and which faults stop a command.
-- Rule: docs/PROTOCOL.md, The program 8.
use Rattle.std.specs.Prelude.{◌≡◌, ◌≢◌, ◌≤◌, ◌⊎◌, ℕ, List, Option, Bool, true, length}
use Rattle.std.specs.Str.{IsUtf8}
use Rattle.ob0_scan.specs.TextWithTokens.{max_text_length}
use Rattle.ob0_analysis.specs.ReportedErrors.{IsWellTypedModule}
use Rattle.ob0_run_machine.specs.declared.program_runs.End.{End}
use Rattle.ob0_run_machine.specs.declared.program_runs.End.TheVariants as end
use Rattle.ob0_commands.specs.declared.faults.FileCommandFault.{FileCommandFault}
use Rattle.ob0_commands.specs.declared.faults.FileCommandFault.TheVariants as fault
use Rattle.ob0_commands.specs.InputNumbers.{IsUnusableInput}

-- Returns the exit status of a fault: 5 if an allocation failed, otherwise 4.
abbrev pub exit_status_of_fault : FileCommandFault → ℕ
exit_status_of_fault fault.File = 4
exit_status_of_fault fault.Utf8 = 4
exit_status_of_fault fault.Input = 4
exit_status_of_fault fault.Write = 4
exit_status_of_fault fault.Memory = 5

-- States that the fault is `Write` or `Memory`: the output can't be written, or an allocation
-- failed.
abbrev pub IsWriteOrMemoryFault : FileCommandFault → Type 0
IsWriteOrMemoryFault f = (f ≡ fault.Write) ⊎ (f ≡ fault.Memory)

-- States that the file's bytes are a text: the file isn't too long, and its bytes are UTF-8.
abbrev pub IsTextFile : List ℕ → Type 0
IsTextFile file = (length file ≤ max_text_length) × IsUtf8 file

-- States that the file isn't too long, but that its bytes aren't UTF-8.
abbrev pub IsShortNonUtf8File : List ℕ → Type 0
IsShortNonUtf8File file = (length file ≤ max_text_length) × ¬ (IsUtf8 file)

-- States that this fault may stop a command on this file. If the file isn't too long and isn't
-- UTF-8 (`IsShortNonUtf8File`), the fault is `Utf8`. Otherwise it is `Write` or `Memory`.
abbrev pub FaultMayStopCommandOnFile : List ℕ → FileCommandFault → Type 0
FaultMayStopCommandOnFile file f =
    ((f ≡ fault.Utf8) × IsShortNonUtf8File file) ⊎ (IsWriteOrMemoryFault f × ¬ (IsShortNonUtf8File file))

-- States that the fault `Memory` occurs only if the file isn't too long.
abbrev pub MemoryFaultImpliesShortFile : List ℕ → FileCommandFault → Type 0
MemoryFaultImpliesShortFile file f = f ≡ fault.Memory → length file ≤ max_text_length

-- States that the output is unchanged, unless the fault is `Write`. `before` and `after` are the
-- output before and after the command.
abbrev pub PrintsNothingUnlessWriteFault : {O : Type 0} → (before after : O) → FileCommandFault → Type 0
PrintsNothingUnlessWriteFault before after f = f ≢ fault.Write → after ≡ before

-- States that the fault is `name` and `reason` holds, or that the fault is `Memory` and `otherwise`
-- holds.
abbrev pub IsFaultForReasonOrMemory : (name : FileCommandFault) → (reason otherwise : Type 0) → FileCommandFault → Type 0
IsFaultForReasonOrMemory name reason otherwise f = ((f ≡ name) × reason) ⊎ ((f ≡ fault.Memory) × otherwise)

-- Returns the exit status for this end of a run: 0 for `Done`, and 1 for a fault or an exceeded
-- bound.
abbrev pub run_end_status : End → ℕ
run_end_status end.Done = 0
run_end_status end.Overflow = 1
run_end_status end.Divisor = 1
run_end_status end.Index = 1
run_end_status end.InputEnd = 1
run_end_status end.CallBound = 1
run_end_status end.TurnBound = 1

-- States whether the output has failed after a command that this fault has ended. If the fault is
-- `Write`, the output has failed (`after` is true). For any other fault, `after` equals `before`,
-- which says whether the output had failed before the command.
abbrev pub OutputFailureMatchesFault : (before after : Bool) → FileCommandFault → Type 0
OutputFailureMatchesFault before after f =
    (f ≡ fault.Write → after ≡ true) × (f ≢ fault.Write → after ≡ before)

-- ---- the faults that stop `run`

-- States that the file is a well-typed module, but that there are no numbers to run it on. Either
-- the input has failed (`input_failed`), or its bytes (`given`) are too long or aren't a list of
-- numbers.
abbrev pub ModuleLacksUsableInput : List ℕ → Option (List ℕ) → (input_failed : Bool) → Type 0
ModuleLacksUsableInput file given input_failed = IsWellTypedModule file × IsUnusableInput given input_failed

-- States that the failure flag of the input is unchanged, unless the fault is `Input`. `before` and
-- `after` are the flag before and after the command.
abbrev pub KeepsInputFailureUnlessInputFault : (before after : Bool) → FileCommandFault → Type 0
KeepsInputFailureUnlessInputFault before after f = f ≢ fault.Input → after ≡ before

-- States that this fault may stop `run` on this file and this input. Either the fault is `Input`,
-- and the file is a well-typed module without a usable input (`ModuleLacksUsableInput`). Or the
-- fault may stop any command on the file (`FaultMayStopCommandOnFile`).
abbrev pub FaultMayStopRun : List ℕ → Option (List ℕ) → (input_failed : Bool) → FileCommandFault → Type 0
FaultMayStopRun file given input_failed f =
    ((f ≡ fault.Input) × ModuleLacksUsableInput file given input_failed) ⊎ FaultMayStopCommandOnFile file f
