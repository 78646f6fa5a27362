-- Converts the end and the outcome that the machine returns (`End`, `Outcome`) to the values that
-- the definitions of runs use (`MachineEnd`, `MachineRun`).
-- Rule: none; used in contracts to give values of the code a meaning.
use Rattle.std.specs.Prelude.{◌≡◌, ℕ, IsErr, Ok, Err, None, Option, Result, Some}
use Rattle.std.specs.declared.alloc.AllocError.{AllocError}
use Rattle.ob0_run_machine.specs.declared.program_runs.End.{End}
use Rattle.ob0_run_machine.specs.declared.program_runs.End.TheVariants as code
use Rattle.ob0_run_machine.specs.declared.program_runs.Outcome.{Outcome}
use Rattle.ob0_run_machine.specs.declared.stop_reasons.StopReason.{StopReason}
use Rattle.ob0_run_machine.specs.StepOutcomes.{end_of_stop_reason}
use Rattle.ob0_run_machine.specs.Evaluation.{CallBound, Divisor, Done, MachineEnd, Index, InputEnd, Overflow, TurnBound}
use Rattle.ob0_run_machine.specs.Execution.{MachineProgress, MachineRun, MachineState, call, execute_sequence, module_levels}
use Rattle.ob0_run_machine.specs.LoweredSyntax.{LoweredCode}
use Rattle.ob0_run_machine.specs.Machines.{output_items}

-- converts an end of a run as the machine returns it (`End`) to an end as it is defined (`MachineEnd`)
abbrev pub meaning_of_end : End → MachineEnd
meaning_of_end code.Done = Done
meaning_of_end code.Overflow = Overflow
meaning_of_end code.Divisor = Divisor
meaning_of_end code.Index = Index
meaning_of_end code.InputEnd = InputEnd
meaning_of_end code.CallBound = CallBound
meaning_of_end code.TurnBound = TurnBound

-- States that the result `r` is Ok with the given end of the run. For None, states that `r` is an
-- error.
abbrev pub ReturnsEnd : Option MachineEnd → Result End AllocError → Type 0
ReturnsEnd (Some e) r = (x : End) × (r ≡ Ok x) × (meaning_of_end x ≡ e)
ReturnsEnd None r = IsErr r

-- States that the second result is the end of a run whose statements returned the first result. The
-- second result is Done if the statements returned normally, and an error if an allocation failed.
-- Otherwise it is the end that belongs to the `StopReason` of the statements.
abbrev pub IsEndAfterExecution : Result (Unit {0}) StopReason → Result End AllocError → Type 0
IsEndAfterExecution (Ok done) r = r ≡ Ok code.Done
IsEndAfterExecution (Err s) r = ReturnsEnd (end_of_stop_reason s) r

-- converts an outcome that the machine returns to a `MachineRun` with the same output and the same
-- end
abbrev pub run_of : Outcome → MachineRun
run_of o = record { output = output_items o.output.items; ending = meaning_of_end o.end }

-- Returns the progress of a run after a program's body, which starts in the state `s`. The bounds
-- are `c` on open calls, and `t` on the iterations of each execution of a loop.
abbrev pub progress_after_body : LoweredCode → ℕ → ℕ → MachineState → MachineProgress
progress_after_body program c t s = execute_sequence (call program.procedures c t) t module_levels program.body s
