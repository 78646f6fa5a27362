-- Defines the runs of the module that a text contains, and the output of the command `run`.
-- Rule: docs/PROTOCOL.md, The program 2.
use Rattle.std.specs.Prelude.{◌≡◌, ◌≢◌, ◌⊎◌, ℕ, ℤ, List, Option, None, IfSome, Bool, true}
use Rattle.std.specs.Io.KnownBytes.{Appends}
use Rattle.ob0_tree.specs.Tree.{Tree, module_text}
use Rattle.ob0_language_names.specs.Names.{Name}
use Rattle.ob0_language_types.specs.WellTyped.{WellTyped}
use Rattle.ob0_language_runs.specs.Runs.{Run, run}
use Rattle.ob0_analysis.specs.ReportedErrors.{IsTextOfTree}
use Rattle.ob0_run.specs.Outcomes.{meaning_of_end}
use Rattle.ob0_run.specs.Programs as lowered
use Rattle.ob0_run_lowering.specs.declared.programs.Program.{Program}
use Rattle.ob0_run_machine.specs.declared.program_runs.End.{End}
use Rattle.ob0_run_machine.specs.declared.program_runs.End.TheVariants as end
use Rattle.ob0_commands.specs.CommandEndings.{EndsWithoutFault}
use Rattle.ob0_commands.specs.InputNumbers.{IsValidInputTextOfNumbers}
use Rattle.ob0_commands.specs.PrintedTexts.{PrintsDiagnostics, run_end_line, output_text}

-- States that the text is a well-typed module and that `r` is its run on this input. At most `c`
-- calls are open at a time, and each execution of a loop has at most `t` iterations.
pub record IsRunOfText (text : List ℕ) (input : List ℤ) (c t : ℕ) (r : Run) : Type 0 where
  pub tree : Tree Name module_text
  pub text_of : IsTextOfTree tree text
  pub well_typed : WellTyped tree
  pub is : r ≡ run tree input c t

-- States that the text is a well-typed module and that this program runs like the module
-- (`ProgramRunsAsModule`).
pub record ProgramRunsAsText (text : List ℕ) (program : Program) : Type 0 where
  pub tree : Tree Name module_text
  pub text_of : IsTextOfTree tree text
  pub well_typed : WellTyped tree
  pub runs : lowered.ProgramRunsAsModule tree program

-- States that `r` is a run of the file's module, and that the output of `r` is printed. If the
-- bytes of the command's input are known (`given`), they spell the numbers of the run's input. `c`
-- limits the number of open calls, and `t` the number of iterations of a loop (`IsRunOfText`).
pub record PrintsRun (file : List ℕ) (given : Option (List ℕ)) (c t : ℕ)
    (before after : Option (List ℕ)) (r : Run) : Type 0 where
  pub input : List ℤ
  pub written : IfSome given (IsValidInputTextOfNumbers input)
  pub runs : IsRunOfText file input c t r
  pub printed : Appends before after (output_text r.output)

-- States that the output of a run of the file's module is printed (`PrintsRun`), and that the run
-- reaches the end of the module's body.
abbrev pub PrintsCompleteRun : List ℕ
    → Option (List ℕ)
    → ℕ
    → ℕ
    → Option (List ℕ)
    → Option (List ℕ)
    → Type 0
PrintsCompleteRun file given c t before after =
    (r : Run) × PrintsRun file given c t before after r × (r.ending ≡ meaning_of_end end.Done)

-- States that the run `r` of the file's module ends with a fault or at a bound (any end except
-- `Done`). The run's output is printed, and the line that reports this end is printed on standard
-- error.
pub record PrintsStoppedRun (file : List ℕ) (given : Option (List ℕ)) (c t : ℕ)
    (before after : Option (List ℕ)) (IsPrintedOnStderr : Option (List ℕ) → Type 0) : Type 0 where
  pub r : Run
  pub prints : PrintsRun file given c t before after r
  pub not_done : r.ending ≢ meaning_of_end end.Done
  pub last : End
  pub ends : r.ending ≡ meaning_of_end last
  pub said : IsPrintedOnStderr (run_end_line last)

-- States that one of two cases applies. Either the file's errors are printed, and nothing is
-- printed on standard error. Or the output of a run that ends with a fault or at a bound is printed
-- (`PrintsStoppedRun`).
abbrev pub PrintsErrorsOrStoppedRun : List ℕ
    → Option (List ℕ)
    → ℕ
    → ℕ
    → Option (List ℕ)
    → Option (List ℕ)
    → (Option (List ℕ) → Type 0)
    → Type 0
PrintsErrorsOrStoppedRun file given c t before after IsPrintedOnStderr =
    (PrintsDiagnostics file before after × IsPrintedOnStderr None)
    ⊎ PrintsStoppedRun file given c t before after IsPrintedOnStderr

-- States that `run` ends with this status and that no fault stops it. With status 0, the output of
-- a run to the end of the module's body is printed, and nothing is printed on standard error. With
-- status 1, the output of a run with any other end is printed, or the file's errors are printed.
-- All output is flushed. With either status, `Both` holds.
abbrev pub RunCommandEndsWithoutFault : {O : Type 0}
    → (contents : O → Option (List ℕ))
    → (is_flushed : O → Bool)
    → (before after : O)
    → (IsPrintedOnStderr : Option (List ℕ) → Type 0)
    → (file : List ℕ)
    → (given : Option (List ℕ))
    → (c t : ℕ)
    → (Both : Type 0)
    → ℕ
    → Type 0
RunCommandEndsWithoutFault contents is_flushed before after IsPrintedOnStderr file given c t =
    EndsWithoutFault
    (PrintsCompleteRun file given c t (contents before) (contents after)
    × (is_flushed after ≡ true)
    × IsPrintedOnStderr None)
    (PrintsErrorsOrStoppedRun file given c t (contents before) (contents after) IsPrintedOnStderr
    × (is_flushed after ≡ true))
