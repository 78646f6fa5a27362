-- Defines the effect of each command on a file (`check`, `run` and `rename`): its output, its exit
-- status, and how much of the input is read. In each definition, `before` and `after` are the
-- output before and after the command. `IsPrintedOnStderr` is applied to the line that the command
-- prints on standard error, or to None if it prints no line there.
-- Rule: docs/PROTOCOL.md, The program 1 to 8.
use Rattle.std.specs.Prelude.{◌≡◌, ◌⊎◌, ℕ, List, [], Option, None, Bool, true, suc}
use Rattle.ob0_text.specs.declared.position_types.Position.{Position}
use Rattle.ob0_analysis.specs.ReportedErrors.{IsWellTypedModule, ReportsErrorsOf}
use Rattle.ob0_cli.specs.declared.line.CommandLine.{CommandLine}
use Rattle.ob0_cli.specs.declared.line.CommandLine.TheVariants.{Serve, Check, Run, Rename}
use Rattle.ob0_commands.specs.CommandEndings.{EndsByFault, EndsWithoutFault}
use Rattle.ob0_commands.specs.InputReaders.{ConsumesAtMost}
use Rattle.ob0_commands.specs.InputNumbers.{max_input_bytes}
use Rattle.ob0_commands.specs.PrintedTexts.{PrintsDiagnostics}
use Rattle.ob0_commands.specs.RenameOutput.{RenameEndsWithoutFault}
use Rattle.ob0_commands.specs.Statuses.{IsShortNonUtf8File, KeepsInputFailureUnlessInputFault, FaultMayStopCommandOnFile, FaultMayStopRun}
use Rattle.ob0_commands.specs.TextRuns.{RunCommandEndsWithoutFault}

-- States that `check` ends with this status. With status 0, the file has no errors, and nothing is
-- printed. With status 1, the file's errors are printed and flushed. With any other status, a fault
-- ended the command (`EndsByFault`).
abbrev pub ChecksFile : {O : Type 0}
    → (contents : O → Option (List ℕ))
    → (is_flushed has_failed : O → Bool)
    → (before after : O)
    → (IsPrintedOnStderr : Option (List ℕ) → Type 0)
    → (file : List ℕ)
    → ℕ
    → Type 0
ChecksFile contents is_flushed has_failed before after IsPrintedOnStderr file status =
    EndsWithoutFault (ReportsErrorsOf file [] × (after ≡ before))
    (PrintsDiagnostics file (contents before) (contents after) × (is_flushed after ≡ true))
    (¬ IsShortNonUtf8File file × (has_failed after ≡ has_failed before) × IsPrintedOnStderr None)
    status
    ⊎ EndsByFault has_failed before after file (FaultMayStopCommandOnFile file) IsPrintedOnStderr status

-- States that `run` ends with this status. With status 0 or 1, the output of a run of the file's
-- module is printed, or the file's errors are printed (`RunCommandEndsWithoutFault`). With any
-- other status, a fault ended the command (`EndsByFault`). The run reads the numbers of the input.
-- At most `c` calls are open at a time in the run, and each execution of a loop has at most `t`
-- iterations. `input` and `input_after` are the input before and after the command.
abbrev pub RunsFile : {O I : Type 0}
    → (contents : O → Option (List ℕ))
    → (is_flushed has_failed : O → Bool)
    → (before after : O)
    → (IsPrintedOnStderr : Option (List ℕ) → Type 0)
    → (file : List ℕ)
    → (remaining : I → Option (List ℕ))
    → (input_failed : I → Bool)
    → (input input_after : I)
    → (c t : ℕ)
    → ℕ
    → Type 0
RunsFile contents is_flushed has_failed before after IsPrintedOnStderr file remaining input_failed input input_after c t status =
    RunCommandEndsWithoutFault contents is_flushed before after IsPrintedOnStderr file (remaining input) c t
    (¬ IsShortNonUtf8File file × (has_failed after ≡ has_failed before)
    × (input_failed input_after ≡ input_failed input))
    status
    ⊎ EndsByFault has_failed before after file
    (λ fault. FaultMayStopRun file (remaining input) (input_failed input_after) fault
    × KeepsInputFailureUnlessInputFault (input_failed input) (input_failed input_after) fault)
    IsPrintedOnStderr status

-- States that `rename` ends with this status. With status 0, the file's text is printed, with the
-- declaration or field at `position` renamed to `new`. With status 1, the file's errors are printed
-- or the renaming is refused. With any other status, a fault ended the command (`EndsByFault`).
abbrev pub RenamesInFile : {O : Type 0}
    → (contents : O → Option (List ℕ))
    → (is_flushed has_failed : O → Bool)
    → (before after : O)
    → (IsPrintedOnStderr : Option (List ℕ) → Type 0)
    → (file : List ℕ)
    → Position
    → (new : List ℕ)
    → ℕ
    → Type 0
RenamesInFile contents is_flushed has_failed before after IsPrintedOnStderr file position new status =
    RenameEndsWithoutFault contents is_flushed before after IsPrintedOnStderr file position new
    (¬ IsShortNonUtf8File file × (has_failed after ≡ has_failed before))
    status
    ⊎ EndsByFault has_failed before after file (FaultMayStopCommandOnFile file) IsPrintedOnStderr status

-- States that the command of this command line ends with this status and has the effect that
-- `ChecksFile`, `RunsFile` or `RenamesInFile` describes. `input` and `input_after` are the input
-- before and after the command. Only `run` reads from the input, and it reads at most
-- `max_input_bytes` + 1 bytes. If the file isn't a well-typed module, `run` reads nothing. For
-- `serve`, which isn't a command on a file, this never holds.
abbrev pub PerformsCommandOnFile : {O I : Type 0}
    → (contents : O → Option (List ℕ))
    → (is_flushed has_failed : O → Bool)
    → (before after : O)
    → (IsPrintedOnStderr : Option (List ℕ) → Type 0)
    → (file : List ℕ)
    → (remaining : I → Option (List ℕ))
    → (input_failed : I → Bool)
    → (input input_after : I)
    → CommandLine
    → ℕ
    → Type 0
PerformsCommandOnFile contents is_flushed has_failed before after IsPrintedOnStderr file remaining input_failed input input_after Serve status =
    ⊥
PerformsCommandOnFile contents is_flushed has_failed before after IsPrintedOnStderr file remaining input_failed input input_after (Check path) status =
    ChecksFile contents is_flushed has_failed before after IsPrintedOnStderr file status × (input_after ≡ input)
PerformsCommandOnFile contents is_flushed has_failed before after IsPrintedOnStderr file remaining input_failed input input_after (Run path c t) status =
    RunsFile contents is_flushed has_failed before after IsPrintedOnStderr file remaining input_failed input input_after c t status
    × ConsumesAtMost (suc max_input_bytes) (remaining input) (remaining input_after)
    × (¬ IsWellTypedModule file → input_after ≡ input)
PerformsCommandOnFile contents is_flushed has_failed before after IsPrintedOnStderr file remaining input_failed input input_after (Rename path position new) status =
    RenamesInFile contents is_flushed has_failed before after IsPrintedOnStderr file position new.now status
    × (input_after ≡ input)
