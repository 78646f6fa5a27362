-- States what the machine's state and the result of each of its steps mean for the run that
-- `Execution` defines. The state has only cells, input and output, since the functions get the
-- bound on iterations as a parameter. The contract of a step that allocates nothing is an equation
-- (`StepRunsStatement`). The contract of any other step has a case for each result
-- (`IsProgressAfterStep`, `IsOutcomeOfArgumentPassing`). `StepHasEffect` is a record, so lemmas about it
-- can have implicit arguments. The invariants of loops in `proofs/Executing` (`InSequence`,
-- `InBranches`, `InWhile`, `InRepeat`) are records for the same reason. There is a lemma for each
-- way to continue a loop or to leave it.
-- Rule: none; used in contracts of the machine.
use Rattle.std.specs.Prelude.{◌≡◌, ℕ, ℤ, List, map, Ok, Err, None, Option, Some, option_map, Result, true}
use denote.MutBor.{MutBor}
use denote.Ref.{Bor}
use Rattle.ob0_run_machine.specs.declared.code.Instruction as code
use Rattle.ob0_run_machine.specs.declared.stop_reasons.EvaluationFault.{EvaluationFault}
use Rattle.ob0_run_machine.specs.declared.stop_reasons.StopReason.{StopReason}
use Rattle.ob0_run_machine.specs.declared.level.Level as level
use Rattle.ob0_run_machine.specs.declared.machine.Item.{Item}
use Rattle.ob0_run_machine.specs.declared.machine.Item.TheVariants as item
use Rattle.ob0_run_machine.specs.declared.machine.Machine.{Machine}
use Rattle.ob0_run_machine.specs.declared.memory.Memory.{Memory}
use Rattle.ob0_run_machine.specs.Allocations.{has_failed}
use Rattle.ob0_run_machine.specs.StepOutcomes.{end_of, end_of_stop_reason}
use Rattle.ob0_run_machine.specs.Evaluation.{MachineEnd, Levels, StepResult, ends, gives}
use Rattle.ob0_run_machine.specs.Execution.{CallEffect, CallArguments, MachineProgress, MachineState, OutputItem, run_routine, call, levels_in_call, execute, execute_sequence, execute_branches, line_out, number_out, running, stopped}
use Rattle.ob0_run_machine.specs.Levels.{levels_of}
use Rattle.ob0_run_machine.specs.LoweredSyntax.{Branches, Routine, Instruction, InstructionList}
use Rattle.ob0_run_machine.specs.LoweredCodeViews.{program_of, sequence_of}
use Rattle.ob0_run_machine.specs.declared.code.LoweredCode.{LoweredCode}

-- converts an `Item` of the machine's output to an `OutputItem`
abbrev pub item_of : Item → OutputItem
item_of (item.Number n) = number_out n
item_of item.Line = line_out

-- converts the list of the machine's output to a list of `OutputItem`, item by item
abbrev pub output_items : List Item → List OutputItem
output_items = map item_of

-- returns the state that the machine is in: its cells, the rest of the input, and the output so far
abbrev pub state_of : Machine → MachineState
state_of m =
    record { cells = m.cells.items; input = m.input.now; output = output_items m.output.items }

-- Returns the progress of a run after a step that allocates nothing, from the result of the step
-- and the machine after the step. The run continues in the machine's state, or has ended with the
-- machine's output. Returns None if the result is a failed allocation, which no such step returns.
abbrev pub progress_after_step : Result (Unit {0}) StopReason → Machine → Option MachineProgress
progress_after_step (Ok done) m = Some (running (state_of m))
progress_after_step (Err s) m =
    option_map (λ e. stopped e (output_items m.output.items)) (end_of_stop_reason s)

-- States that a step from the machine `m` to the machine `m'` with the result `r` runs the statement
-- `a`, as `execute` defines it. `a` contains no call and no loop, so this holds for each effect of
-- calls and for each bound `t` on iterations.
abbrev pub StepRunsStatement : Result (Unit {0}) StopReason → (m m' : Machine) → Levels → Instruction → Type 0
StepRunsStatement r m m' ls a =
    (enters : CallEffect) (t : ℕ) → progress_after_step r m' ≡ Some (execute enters t ls a (state_of m))

-- States that the progress `p` is a run that has ended with the given end and the output of the
-- machine `m`. For None, states instead that an allocation has failed, and claims nothing about
-- `p`.
abbrev pub StopsRun : Option MachineEnd → Machine → MachineProgress → Type 0
StopsRun (Some e) m p = p ≡ stopped e (output_items m.output.items)
StopsRun None m p = has_failed m.memory ≡ true

-- States that `p` is the progress of a run after a step with this result. `m` is the machine after
-- the step. The run continues in the machine's state, or has ended as `StopsRun` says.
abbrev pub IsProgressAfterStep : Result (Unit {0}) StopReason → Machine → MachineProgress → Type 0
IsProgressAfterStep (Ok done) m p = p ≡ running (state_of m)
IsProgressAfterStep (Err s) m p = StopsRun (end_of_stop_reason s) m p

-- The type of the postcondition of a closure that performs calls. It relates the machine before the
-- call, the procedure's index, the called activation, the result, and the machine after the call.
abbrev pub CallPostcondition : Type 1
CallPostcondition = MutBor Machine → ℕ → Bor level.Level → Result (Unit {0}) StopReason → MutBor Machine → Type 0

-- States that each call for which the postcondition `post` holds has the effect `enters`.
abbrev pub CallsHaveEffect : CallPostcondition → CallEffect → Type 0
CallsHaveEffect post enters =
    (at : MutBor Machine) (k : ℕ) (l : Bor level.Level) (r : Result (Unit {0}) StopReason)
    (after : MutBor Machine)
    → post at k l r after → IsProgressAfterStep r after.now (enters k (levels_of l.now) (state_of at.now))

-- The type of the effect of a part of a program, for example of a statement. The effect is a
-- function of the effect of calls, and of the state before the part runs. It returns the progress
-- of the run after the part.
abbrev pub CodeEffect : Type 0
CodeEffect = CallEffect → MachineState → MachineProgress

-- returns the effect of a statement, in the activations `ls`, with at most `t` iterations of each
-- execution of a loop
abbrev pub statement_effect : ℕ → Levels → Instruction → CodeEffect
statement_effect t ls a enters s = execute enters t ls a s

-- returns the effect of a list of statements, in the activations `ls`, with at most `t` iterations
-- of each execution of a loop
abbrev pub sequence_effect : ℕ → Levels → InstructionList → CodeEffect
sequence_effect t ls as_listed enters s = execute_sequence enters t ls as_listed s

-- returns the effect of the first branch with a TRUE condition, or of the statements `otherwise` if
-- no condition is TRUE
abbrev pub elsifs_effect : ℕ → Levels → Branches → InstructionList → CodeEffect
elsifs_effect t ls bs otherwise enters s =
    execute_branches enters t ls bs (execute_sequence enters t ls otherwise) s

-- States that a step from the machine `m` to the machine `m'` with the result `r` has the effect
-- `doing`. This has to hold for each effect of calls that agrees with `post`, the postcondition of
-- the closure that performs calls (`CallsHaveEffect`).
pub record StepHasEffect (post : CallPostcondition) (r : Result (Unit {0}) StopReason) (m m' : Machine) (doing : CodeEffect)
    : Type 0 where
  pub has_effect : (enters : CallEffect)
      → CallsHaveEffect post enters
      → IsProgressAfterStep r m' (doing enters (state_of m))

-- States that the statements `r` have the same effect as the statements `xs`, in the state of the
-- machine `m` and in the activations `ls`. If `r` is a fault, states that it ends the run of `xs`.
abbrev pub ReplacesStatements : Result (Bor (List code.Instruction)) EvaluationFault → Machine → Levels → List code.Instruction → Type 0
ReplacesStatements (Ok ss) m ls xs =
    (enters : CallEffect) (t : ℕ)
    → sequence_effect t ls (sequence_of xs) enters (state_of m) ≡ sequence_effect t ls (sequence_of ss.now) enters (state_of m)
ReplacesStatements (Err e) m ls xs =
    (enters : CallEffect) (t : ℕ)
    → sequence_effect t ls (sequence_of xs) enters (state_of m) ≡ stopped (end_of e) (output_items m.output.items)

-- Returns the passed arguments of a call, with the cells `cells` and the addresses `addresses`.
-- `cells` has all cells so far, with the passed values at the end.
abbrev pub passed_arguments : List ℤ → List ℕ → CallArguments
passed_arguments cells addresses = record { cells = cells; addresses = addresses }

-- Returns the effect of entering the procedure with the index `k`. The procedure is declared `up`
-- levels out from the caller's activation, which is the first of `ls`. The
-- procedure's activation has its first cell at `base`, and `addresses` are the addresses of its VAR
-- parameters.
abbrev pub procedure_entry_effect : ℕ → ℕ → Levels → ℕ → List ℕ → CodeEffect
procedure_entry_effect k up ls base addresses enters s =
    enters k (levels_in_call ls base up (passed_arguments s.cells addresses)) s

-- States that the outcome `o` of evaluating arguments is the given end of the run. For None, states
-- instead that an allocation has failed, and claims nothing about `o`.
abbrev pub StopsArgumentPassing : Option MachineEnd → Memory → StepResult CallArguments → Type 0
StopsArgumentPassing (Some e) memory o = o ≡ ends e
StopsArgumentPassing None memory o = has_failed memory ≡ true

-- States that `o` is the outcome of passing arguments, given the machine's result. If the result is
-- Ok, `o` gives the cells `cells` and the addresses `addresses`. If the result is an error, the run
-- ends as `StopsArgumentPassing` says.
abbrev pub IsOutcomeOfArgumentPassing : Result (Unit {0}) StopReason → Memory → List ℤ → List ℕ → StepResult CallArguments → Type 0
IsOutcomeOfArgumentPassing (Ok done) memory cells addresses o = o ≡ gives (passed_arguments cells addresses)
IsOutcomeOfArgumentPassing (Err s) memory cells addresses o = StopsArgumentPassing (end_of_stop_reason s) memory o

-- Returns the effect of a procedure's activation: the cells of the variables that the procedure
-- declares are added, and then its body runs. If there is no procedure (None), nothing happens.
abbrev pub activation_effect : Option Routine → ℕ → Levels → CodeEffect
activation_effect o t ls enters s = run_routine enters t ls o s

-- States that a call of a procedure leads from the machine `m` to the machine `m'` with the result
-- `r`, as `call` defines it (`IsProgressAfterStep`). `k` is the procedure's index, and `l` is the
-- level of the called activation. At most `c` calls may still be opened, including this call. Each
-- execution of a loop may make at most `t` iterations.
abbrev pub IsProgressAfterCall : Result (Unit {0}) StopReason
    → Machine
    → Machine
    → LoweredCode
    → ℕ
    → ℕ
    → ℕ
    → level.Level
    → Type 0
IsProgressAfterCall r m m' program c t k l =
    IsProgressAfterStep r m' (call (program_of program).procedures c t k (levels_of l) (state_of m))
