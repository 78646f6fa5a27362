-- Defines the runs of lowered statements, calls and whole programs, in big-step style. A run
-- depends on the activations that the running code can see, on the cells, and on the rest of the
-- input. It also depends on two bounds: `c` on the open calls, and `t` on the iterations of each
-- execution of a loop.
-- Rule: docs/LANGUAGE.md, Runs 5 to 10.
use Rattle.std.specs.Prelude.{ℕ, zero, suc, ◌+◌, ◌-◌, ◌^◌, Bool, true, false, ◌&&◌, List, [], ◌∷◌, ◌++◌, length, take, drop, replicate, ℤ, pos, Some, None, Option, if◌then◌else◌, nat_le, nat_lt, slice_get, slice_set}
use Rattle.ob0_run_machine.specs.LoweredSyntax.{LoweredArgument, by_place, by_number, by_truth, by_block, Instruction, stores_number, stores_truth, copies, reads, writes, writes_line, chooses_branch, while_loop, repeat_loop, calls, InstructionList, no_statement, next_statement, Branches, no_branch, branch, Routine, LoweredCode}
use Rattle.ob0_run_machine.specs.Evaluation.{CallBound, Done, MachineEnd, InputEnd, StepResult, Levels, TurnBound, place_address, truth_as_cell, ends, gives, innermost_level, number_value, truth_value, ◌>>=◌}

-- An item of output: a number, or the end of a line.
pub data OutputItem : Type 0 where
  number_out : ℤ → OutputItem
  line_out : OutputItem

-- The state of a run: the cells of all variables (the module's first), the rest of the input, and
-- the output so far.
pub record MachineState : Type 0 where
  pub cells : List ℤ
  pub input : List ℤ
  pub output : List OutputItem

-- The progress of a run. The run continues in a state (`running`), or it has ended, with an end and
-- an output (`stopped`). If the number of cells would have more than 64 bits, the progress is
-- `no_room`.
pub data MachineProgress : Type 0 where
  running : MachineState → MachineProgress
  stopped : MachineEnd → List OutputItem → MachineProgress
  no_room : MachineProgress

-- Continues a run by applying `next` to the value of an evaluation. If the evaluation ends the run,
-- `next` is skipped, and the run ends with the output of the state `s`.
abbrev pub continue_with_result : {A : Type 0} → MachineState → StepResult A → (A → MachineProgress)
    → MachineProgress
continue_with_result s (gives a) next = next a
continue_with_result s (ends e) next = stopped e s.output

-- Applies the step `next` to the state of a run. Changes nothing if the run has ended, or if it
-- needs too many cells (`no_room`).
abbrev pub continue_run : MachineProgress → (MachineState → MachineProgress) → MachineProgress
continue_run (running s) next = next s
continue_run (stopped e out) next = stopped e out
continue_run no_room next = no_room

-- Continues a run with one of two steps, depending on the value of a condition. If the evaluation
-- of the condition ends the run, the run ends, and both steps are skipped.
abbrev pub choose_by_truth : MachineState → StepResult Bool
    → (MachineState → MachineProgress)
    → (MachineState → MachineProgress)
    → MachineProgress
choose_by_truth s (gives true) when_true when_false = when_true s
choose_by_truth s (gives false) when_true when_false = when_false s
choose_by_truth s (ends e) when_true when_false = stopped e s.output

-- returns the state with one more item at the end of the output
abbrev pub append_output : MachineState → OutputItem → MachineState
append_output s i = record s { output = s.output ++ i ∷ [] }

-- Returns the state after a number was stored in the cell at an address. The state is unchanged if
-- there is no such cell.
abbrev pub store_in_cell : MachineState → ℕ → ℤ → MachineState
store_in_cell s a n = record s { cells = slice_set s.cells a n }

-- Returns the cells after the `n` cells that begin at `from` were copied to `to`. The cells are
-- unchanged if the list has fewer than `from + n` cells, or fewer than `to + n` cells.
abbrev pub cells_after_copy : List ℤ → (to from n : ℕ) → List ℤ
cells_after_copy cells to from n =
    if nat_le (to + n) (length cells) && nat_le (from + n) (length cells)
    then take to cells ++ (take n (drop from cells) ++ drop (to + n) cells)
    else cells

-- returns `n` cells with the value 0
abbrev pub zeros : ℕ → List ℤ
zeros n = replicate n (pos 0)

-- returns the `n` cells that begin at the address `from`, or `n` zeros if the list has fewer than
-- `from + n` cells
abbrev pub block_or_zeros_at_address : List ℤ → (from n : ℕ) → List ℤ
block_or_zeros_at_address cells from n =
    if nat_le (from + n) (length cells) then take n (drop from cells) else zeros n

-- Returns the progress of a run after `Read`, which stores the next number of the input in the cell
-- at the address `a`. The last argument is the remaining input. If it is empty, the run ends with
-- InputEnd.
abbrev pub read_number : MachineState → ℕ → List ℤ → MachineProgress
read_number s a [] = stopped InputEnd s.output
read_number s a (n ∷ rest) = running (store_in_cell (record s { input = rest }) a n)

-- The arguments of a call that have been passed so far. `cells` has all cells, with the passed
-- values at the end. `addresses` has the addresses that were passed for VAR parameters. Both are in
-- the order of the parameters.
pub record CallArguments : Type 0 where
  pub cells : List ℤ
  pub addresses : List ℕ

-- returns the passed arguments `p` with the cells `more` added at the end of their cells
abbrev pub add_passed_cells : CallArguments → List ℤ → CallArguments
add_passed_cells p more = record p { cells = p.cells ++ more }

-- Evaluates an argument over the cells before the call (`before`). Returns `done`, the arguments
-- passed so far, with this one added. An argument for a VAR parameter adds an address, any other
-- argument adds the cells of its value. If the evaluation ends the run, returns this end.
abbrev pub pass_argument : Levels → (before : List ℤ) → LoweredArgument → CallArguments
    → StepResult CallArguments
pass_argument ls before (by_place p) done =
    place_address ls before p >>= (λ a. gives record done { addresses = done.addresses ++ a ∷ [] })
pass_argument ls before (by_number n) done =
    number_value ls before n >>= (λ a. gives (add_passed_cells done (a ∷ [])))
pass_argument ls before (by_truth t) done =
    truth_value ls before t >>= (λ a. gives (add_passed_cells done (truth_as_cell a ∷ [])))
pass_argument ls before (by_block p n) done =
    place_address ls before p >>= (λ a. gives (add_passed_cells done (block_or_zeros_at_address before a n)))

-- Evaluates and passes a list of arguments, from left to right. Returns `done`, the arguments
-- passed so far, with these added. `before` has the cells before the call. If an evaluation ends
-- the run, returns this end.
abbrev pub pass_arguments : Levels → (before : List ℤ) → List LoweredArgument → CallArguments
    → StepResult CallArguments
pass_arguments ls before [] done = gives done
pass_arguments ls before (a ∷ as_given) done = pass_argument ls before a done >>= pass_arguments ls before as_given

-- Returns the run of a WHILE, with at most `t` iterations. If the condition is FALSE, the statement
-- ends. If the condition is TRUE, one more iteration is made. If no iteration is left, the run ends
-- with TurnBound instead.
abbrev pub execute_while : ℕ → (MachineState → StepResult Bool)
    → (MachineState → MachineProgress)
    → MachineState
    → MachineProgress
execute_while zero condition statements s =
    choose_by_truth s (condition s) (λ s'. stopped TurnBound s'.output) running
execute_while (suc t) condition statements s =
    choose_by_truth s (condition s) (λ s'. continue_run (statements s') (execute_while t condition statements))
    running

-- Returns the run of a REPEAT, with at most `t` iterations after the first. The condition is
-- evaluated after each iteration. If the condition is TRUE, the statement ends. If it is FALSE, one
-- more iteration is made. If no iteration is left, the run ends with TurnBound instead.
abbrev pub execute_repeat : ℕ → (MachineState → StepResult Bool)
    → (MachineState → MachineProgress)
    → MachineState
    → MachineProgress
execute_repeat zero condition turn s =
    continue_run (turn s)
    (λ s'. choose_by_truth s' (condition s') running (λ s''. stopped TurnBound s''.output))
execute_repeat (suc t) condition turn s =
    continue_run (turn s) (λ s'. choose_by_truth s' (condition s') running (execute_repeat t condition turn))

-- The type of the effect of a call whose arguments have been passed. The effect is a function of
-- the procedure's index, of the activations that the procedure's body can see (its own first), and
-- of the state.
abbrev pub CallEffect : Type 0
CallEffect = ℕ → Levels → MachineState → MachineProgress

-- Returns the activations that a called procedure can see. The procedure's activation is first,
-- with this base and the addresses in `p`. The caller's activations `ls` follow, without the first
-- `up`.
abbrev pub levels_in_call : Levels → (base up : ℕ) → CallArguments → Levels
levels_in_call ls base up p = record { base = base; addresses = p.addresses } ∷ drop up ls

-- Defines the run of statements. An assignment computes the address of its place, then evaluates
-- its right side, then stores the value.
unfoldable mutual
  -- Returns the run of one statement. `enter` says what a call does after its arguments have been
  -- passed (`CallEffect`). Each execution of a loop may make at most `t` iterations.
  pub execute : CallEffect → ℕ → Levels → Instruction → MachineState → MachineProgress
  execute enter t ls (stores_number p n) s =
      continue_with_result s (place_address ls s.cells p)
      (λ a. continue_with_result s (number_value ls s.cells n) (λ v. running (store_in_cell s a v)))
  execute enter t ls (stores_truth p u) s =
      continue_with_result s (place_address ls s.cells p)
      (λ a. continue_with_result s (truth_value ls s.cells u) (λ v. running (store_in_cell s a (truth_as_cell v))))
  execute enter t ls (copies p q n) s =
      continue_with_result s (place_address ls s.cells p) (λ to. continue_with_result s (place_address ls s.cells q)
      (λ from. running record s { cells = cells_after_copy s.cells to from n }))
  execute enter t ls (reads p) s = continue_with_result s (place_address ls s.cells p) (λ a. read_number s a s.input)
  execute enter t ls (writes n) s =
      continue_with_result s (number_value ls s.cells n) (λ v. running (append_output s (number_out v)))
  execute enter t ls writes_line s = running (append_output s line_out)
  execute enter t ls (chooses_branch bs otherwise) s =
      execute_branches enter t ls bs (execute_sequence enter t ls otherwise) s
  execute enter t ls (while_loop c body) s =
      execute_while t (λ s'. truth_value ls s'.cells c) (execute_sequence enter t ls body) s
  execute enter t ls (repeat_loop body c) s =
      execute_repeat (t - 1) (λ s'. truth_value ls s'.cells c) (execute_sequence enter t ls body) s
  execute enter t ls (calls k up args) s =
      continue_with_result s (pass_arguments ls s.cells args record { cells = s.cells; addresses = [] })
      (λ p. enter k (levels_in_call ls (length s.cells) up p) record s { cells = p.cells })

  -- returns the run of a list of statements, one after the other
  pub execute_sequence : CallEffect → ℕ → Levels → InstructionList → MachineState → MachineProgress
  execute_sequence enter t ls no_statement s = running s
  execute_sequence enter t ls (next_statement a rest) s =
      continue_run (execute enter t ls a s) (execute_sequence enter t ls rest)

  -- returns the run of the first branch with a TRUE condition, or of `otherwise` if no condition is
  -- TRUE
  pub execute_branches : CallEffect → ℕ → Levels → Branches
      → (MachineState → MachineProgress)
      → MachineState
      → MachineProgress
  execute_branches enter t ls no_branch otherwise s = otherwise s
  execute_branches enter t ls (branch c body rest) otherwise s =
      choose_by_truth s (truth_value ls s.cells c) (execute_sequence enter t ls body)
      (execute_branches enter t ls rest otherwise)

-- Drops all cells of a run's state except the first `n`. Changes nothing if the run has ended, or
-- if it needs too many cells (`no_room`).
abbrev pub drop_variables : ℕ → MachineProgress → MachineProgress
drop_variables n (running s) = running record s { cells = take n s.cells }
drop_variables n (stopped e out) = stopped e out
drop_variables n no_room = no_room

-- Adds `n` cells with the value 0 after all other cells, and continues the run with `next`. Returns
-- `no_room` if the number of cells would have more than 64 bits.
abbrev pub run_with_added_cells : ℕ → (MachineState → MachineProgress) → MachineState → MachineProgress
run_with_added_cells n next s =
    if nat_lt (length s.cells + n) (2 ^ 64)
    then next record s { cells = s.cells ++ zeros n }
    else no_room

-- Returns the run of a procedure's body, after the cells of the variables that the procedure
-- declares were added. If there is no procedure (None), the state is unchanged.
unfoldable pub run_routine : CallEffect → ℕ → Levels → Option Routine → MachineState → MachineProgress
unfolding execute_sequence
run_routine enter t ls None s = running s
run_routine enter t ls (Some p) s = run_with_added_cells p.cells (execute_sequence enter t ls p.body) s

-- Returns the effect of a call of one of the procedures in a list, if `c` calls may still be
-- opened, including this call. The procedure's body runs, and then the cells of its activation are
-- dropped. If `c` is 0, the run ends with CallBound.
unfoldable pub call : List Routine → ℕ → ℕ → CallEffect
unfolding run_routine
call procedures zero t k ls s = stopped CallBound s.output
call procedures (suc c) t k ls s =
    drop_variables (innermost_level ls).base
    (run_routine (call procedures c t) t ls (slice_get procedures k) s)

-- The result of a whole run: its output, and how it ended.
pub record MachineRun : Type 0 where
  pub output : List OutputItem
  pub ending : MachineEnd

-- Returns the output and the end of a run. The end is Done if nothing stopped the run. Returns None
-- if the run needs too many cells (`no_room`).
abbrev pub run_result : MachineProgress → Option MachineRun
run_result (running s) = Some (record { output = s.output; ending = Done })
run_result (stopped e out) = Some (record { output = out; ending = e })
run_result no_room = None

-- returns the activations that the module's body can see: only the module's activation, with base 0
abbrev pub module_levels : Levels
module_levels = record { base = 0; addresses = [] } ∷ []

-- Returns the run of a program on an input. The bounds are `c` on open calls, and `t` on the
-- iterations of each execution of a loop. Returns None if the number of cells would have more than
-- 64 bits.
unfoldable pub run : LoweredCode → List ℤ → ℕ → ℕ → Option MachineRun
unfolding execute_sequence call
run program input c t =
    run_result (run_with_added_cells program.cells
    (execute_sequence (call program.procedures c t) t module_levels program.body) record
    { cells = []; input = input; output = [] })
