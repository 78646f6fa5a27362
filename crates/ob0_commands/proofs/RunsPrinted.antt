-- Proves that if the run of a file's text is printed, the run of the file is printed. Also proves
-- which end of the run each status means.
use Rattle.std.proofs.Common.{◌≡◌, ◌≢◌, ℕ, ℤ, Bool, List, Option, None, Result, Ok, Err, IfOk, IfSome, OnOk, inl, inr, refl, subst, arith}
use Rattle.std.specs.Io.KnownBytes.{Appends}
use Rattle.ob0_analysis.specs.ReportedErrors.{IsWellTypedModule}
use Rattle.ob0_run_lowering.specs.declared.programs.Program.{Program}
use Rattle.ob0_run_machine.specs.declared.machine.Item.{Item}
use Rattle.ob0_run_machine.specs.declared.program_runs.End.{End}
use Rattle.ob0_run_machine.specs.declared.program_runs.End.TheVariants as end
use Rattle.ob0_run_machine.specs.declared.program_runs.Outcome.{Outcome}
use Rattle.ob0_run.specs.Outcomes.{meaning_of_end, output_items, run_of}
use Rattle.ob0_commands.specs.declared.faults.FileCommandFault.{FileCommandFault}
use Rattle.ob0_commands.specs.declared.faults.FileCommandFault.TheVariants as fault
use Rattle.ob0_commands.specs.InputNumbers.{IsUnusableInput, IsValidInputTextOfNumbers}
use Rattle.ob0_commands.specs.PrintedTexts.{PrintsDiagnostics, run_end_line, output_text}
use Rattle.ob0_commands.specs.Statuses.{IsShortNonUtf8File, IsFaultForReasonOrMemory, FaultMayStopRun, run_end_status}
use Rattle.ob0_commands.specs.TextRuns.{ProgramRunsAsText, PrintsCompleteRun, PrintsErrorsOrStoppedRun, PrintsRun, IsRunOfText}

-- If the status is 0, the run reached the end of the module's body.
done : (e : End) (n : ℕ) → n ≡ run_end_status e → n ≡ 0 → meaning_of_end e ≡ meaning_of_end end.Done
done end.Done n is zero = refl
done end.Overflow n is zero = absurd (omega (arith, is, zero))
done end.Divisor n is zero = absurd (omega (arith, is, zero))
done end.Index n is zero = absurd (omega (arith, is, zero))
done end.InputEnd n is zero = absurd (omega (arith, is, zero))
done end.CallBound n is zero = absurd (omega (arith, is, zero))
done end.TurnBound n is zero = absurd (omega (arith, is, zero))

-- If the status is 1, the run had another end.
ended_otherwise : (e : End) (n : ℕ) → n ≡ run_end_status e → n ≡ 1 → meaning_of_end e ≢ meaning_of_end end.Done
ended_otherwise end.Done n is one = absurd (omega (arith, is, one))
ended_otherwise end.Overflow n is one = λ e. cc
ended_otherwise end.Divisor n is one = λ e. cc
ended_otherwise end.Index n is one = λ e. cc
ended_otherwise end.InputEnd n is one = λ e. cc
ended_otherwise end.CallBound n is one = λ e. cc
ended_otherwise end.TurnBound n is one = λ e. cc

pub prints_run : (file text : List ℕ) (given : Option (List ℕ)) (c t : ℕ) (before mid after : Option (List ℕ)) (numbers input : List ℤ) (o : Outcome) (items : List Item)
    → text ≡ file → mid ≡ before → input ≡ numbers → IfSome given (IsValidInputTextOfNumbers numbers) → IsRunOfText text input c t (run_of o) → items ≡ o.output.items → Appends mid after (output_text (output_items items))
    → PrintsRun file given c t before after (run_of o)
prints_run file text given c t before mid after numbers input o items same kept is written runs all printed = record {
  input = numbers;
  written = written;
  runs = subst (λ (ns : List ℤ). IsRunOfText file ns c t (run_of o)) is (subst (λ (f : List ℕ). IsRunOfText f input c t (run_of o)) same runs);
  printed = subst (λ (b : Option (List ℕ)). Appends b after (output_text (output_items o.output.items))) kept (subst (λ (xs : List Item). Appends mid after (output_text (output_items xs))) all printed);
}

pub prints_done : (file : List ℕ) (given : Option (List ℕ)) (c t n : ℕ) (before after : Option (List ℕ)) (o : Outcome) → PrintsRun file given c t before after (run_of o) → n ≡ run_end_status o.end → n ≡ 0
    → PrintsCompleteRun file given c t before after
prints_done file given c t n before after o printed is zero = (run_of o, printed, done o.end n is zero)

pub prints_other : (file : List ℕ) (given : Option (List ℕ)) (c t n : ℕ) (before after : Option (List ℕ)) (o : Outcome) → PrintsRun file given c t before after (run_of o) → n ≡ run_end_status o.end → n ≡ 1
    → (IsPrintedOnStderr : Option (List ℕ) → Type 0) → IsPrintedOnStderr (run_end_line o.end) → PrintsErrorsOrStoppedRun file given c t before after IsPrintedOnStderr
prints_other file given c t n before after o printed is one IsPrintedOnStderr says =
    inr (record { r = run_of o; prints = printed; not_done = ended_otherwise o.end n is one; last = o.end; ends = refl; said = says })

pub prints_wrong : (file text : List ℕ) (given : Option (List ℕ)) (c t : ℕ) (before mid after : Option (List ℕ)) → text ≡ file → mid ≡ before → PrintsDiagnostics text mid after
    → (IsPrintedOnStderr : Option (List ℕ) → Type 0) → IsPrintedOnStderr None → PrintsErrorsOrStoppedRun file given c t before after IsPrintedOnStderr
prints_wrong file text given c t before mid after same kept wrong IsPrintedOnStderr silent =
    inl (subst (λ (b : Option (List ℕ)). PrintsDiagnostics file b after) kept (subst (λ (f : List ℕ). PrintsDiagnostics f mid after) same wrong), silent)

-- If reading the numbers fails, `run` may stop with that fault.
pub stops_reading : (file text : List ℕ) (program : Program) (given : Option (List ℕ)) (failed : Bool) (Otherwise : Type 0) (f : FileCommandFault) → text ≡ file → ProgramRunsAsText text program → ¬ (IsShortNonUtf8File file)
    → IsFaultForReasonOrMemory fault.Input (IsUnusableInput given failed) Otherwise f → FaultMayStopRun file given failed f
stops_reading file text program given failed Otherwise f same lowered readable (inl none) =
    let module_there : IsWellTypedModule text = record { tree = lowered.tree; text_of = lowered.text_of; well_typed = lowered.well_typed } in
    inl (none.0, (subst IsWellTypedModule same module_there, none.1))
stops_reading file text program given failed Otherwise f same lowered readable (inr memory) = inr (inr (inr memory.0, readable))

-- If r is Ok, the facts about its value together imply the last fact about that value.
pub from_all : {X E A B C D : Type 0} {P Q R S : X → Type 0} (r : Result X E) → ((x : X) → P x → Q x → R x → A → B → C → D → S x)
    → IfOk r P → IfOk r Q → IfOk r R → OnOk r A → OnOk r B → OnOk r C → OnOk r D → IfOk r S
from_all (Ok x) f p q s a b c d = f x p q s a b c d
from_all (Err e) f p q s a b c d = tt
