-- States when lowered statements are correct: they change the machine's cells, input and output as
-- a module's statements change the module's store, input and output.
-- Rule: docs/LANGUAGE.md, Runs 5 to 9.
use Rattle.std.specs.Prelude.{◌≡◌, ℕ, List, [], ◌∷◌, ◌++◌, length, map, ℤ, Some}
use Rattle.ob0_tree.specs.Tree.{Tree, else_part, elsif_part, expression, statement_after_semicolon, items, maybe, selector, sequence, statement}
use Rattle.ob0_language_types.specs.Expressions.{Meanings, a_procedure, a_variable}
use Rattle.ob0_language_types.specs.Typing.{lone_designator}
use Rattle.ob0_language_types.specs.WellTyped.{FormalParameter, ParameterMode, Signature, TypeMeanings, by_place, by_value}
use Rattle.ob0_language_values.specs.Values.{Place, Shape, Store, boolean_shape, integer_shape}
use Rattle.ob0_language_runs.specs.TypeAgreement.{ArgumentsMatchSignature, StoreHasTypes, StoreTyping}
use Rattle.ob0_language_runs.specs.Runs.{Argument, CallFunction, Progress, State, PrintedItem, execute_statement, execute_sequence, execute_else, execute_elsifs, execute_further_statements, printed_line_end, printed_number, place_argument, running, stopped, value_argument}
use Rattle.ob0_run_machine.specs.Evaluation.{Levels}
use Rattle.ob0_run_machine.specs.Execution as execution
use Rattle.ob0_run_machine.specs.LoweredSyntax as lowered
use Rattle.ob0_run_cells.specs.Cells.{address_of_place, cells_of_store, cells_of, shape_cell_count}
use Rattle.ob0_run_cells.specs.LoweredExpressions.{IsMomentOfModule, Moment, NumberHasOutcome, PlaceHasOutcome, Slot, TruthHasOutcome, PlaceHoldsValue, end_of, place_of_designator, value_of_expression}

-- converts an item of the machine's output to an item of a module's output
abbrev pub printed_item_of : execution.OutputItem → PrintedItem
printed_item_of (execution.number_out n) = printed_number n
printed_item_of execution.line_out = printed_line_end

-- States that the state `low` of the machine represents the state `s` of the module. `low` has the
-- cells of the store of `s`, whose variables have these types, and the same input and output as
-- `s`.
pub record MachineStateRepresentsState (typing : StoreTyping) (low : execution.MachineState) (s : State)
    : Type 0 where
  pub store_fits : StoreHasTypes typing s.store
  pub same_cells : low.cells ≡ cells_of_store s.store
  pub same_input : low.input ≡ s.input
  pub same_output : map printed_item_of low.output ≡ s.output

-- States that a run of the machine and a run of the module agree. Both continue, in states that
-- represent each other, or both have ended with the same end and output. Claims nothing if the
-- number of the machine's cells doesn't fit in 64 bits (`no_room`).
abbrev pub MachineProgressRepresentsProgress : StoreTyping → execution.MachineProgress → Progress → Type 0
MachineProgressRepresentsProgress typing execution.no_room q = Unit {0}
MachineProgressRepresentsProgress typing (execution.running low) (running s) = MachineStateRepresentsState typing low s
MachineProgressRepresentsProgress typing (execution.stopped e out) (stopped f written) =
    (end_of e ≡ f) × (map printed_item_of out ≡ written)
MachineProgressRepresentsProgress typing _ _ = ⊥

-- returns the cells of the arguments that are passed by value
abbrev pub value_argument_cells : List Argument → List ℤ
value_argument_cells [] = []
value_argument_cells (place_argument p ∷ args) = value_argument_cells args
value_argument_cells (value_argument v ∷ args) = cells_of v ++ value_argument_cells args

-- returns the addresses of the arguments for VAR parameters, in order
abbrev pub place_argument_addresses : StoreTyping → List Argument → List ℕ
place_argument_addresses typing [] = []
place_argument_addresses typing (place_argument p ∷ args) =
    address_of_place typing p ∷ place_argument_addresses typing args
place_argument_addresses typing (value_argument v ∷ args) = place_argument_addresses typing args

-- The procedure that a call enters. `procedure` is its index in the program. `up` is the number of
-- levels from the caller's activation out to the activation in which the procedure is declared.
pub record Target : Type 0 where
  pub procedure : ℕ
  pub up : ℕ

-- The data that is unchanged while the statements of a body run. It has the types of the store, the
-- meanings of names, and the activations that the body can see. `call_effect` is the effect of the
-- module's calls, and `lowered_call_effect` is the effect of lowered calls.
pub record BodyContext (N : Type 0) : Type 0 where
  pub typing : StoreTyping
  pub active : Meanings N Place (List ParameterMode)
  pub levels : Levels
  pub call_effect : CallFunction N
  pub lowered_call_effect : execution.CallEffect

-- States that each lowered call has the effect of the module's call of the same procedure. This has
-- to hold if both calls have the same arguments and begin in states that represent each other.
abbrev pub LoweredCallsRepresentCalls : {N : Type 0} → TypeMeanings N → (N → Target) → BodyContext N → Type 0
LoweredCallsRepresentCalls {N} checked targets b =
    (x : N) (signature : Signature)
    → checked.object_for x ≡ Some (a_procedure signature)
    → (args : List Argument) (low : execution.MachineState) (s : State) (p : execution.CallArguments)
    → MachineStateRepresentsState b.typing low s
    → ArgumentsMatchSignature b.typing signature args
    → p.cells ≡ low.cells ++ value_argument_cells args
    → p.addresses ≡ place_argument_addresses b.typing args
    → MachineProgressRepresentsProgress b.typing (b.lowered_call_effect (targets x).procedure
    (execution.levels_in_call b.levels (length low.cells) (targets x).up p) record low
    { cells = p.cells }) (b.call_effect x args s)

-- returns the moment of a run (`Moment`) at which the body `b` runs and the store is `store`
abbrev pub moment_with_store : {N : Type 0} → BodyContext N → Store → Moment N
moment_with_store b store = record { typing = b.typing; store = store; active = b.active; levels = b.levels }

-- States that a body belongs to a checked module. For each store with the body's types, the moment
-- with this store belongs to the module (`IsMomentOfModule`). A lowered call of a procedure's
-- target has the effect of the procedure's call.
pub record IsBodyOfModule {N : Type 0} (checked : TypeMeanings N) (slots : N → Slot) (targets : N → Target)
    (b : BodyContext N) : Type 0 where
  pub is_moment : (store : Store)
      → StoreHasTypes b.typing store
      → IsMomentOfModule checked slots (moment_with_store b store)
  pub calls_represent : LoweredCallsRepresentCalls checked targets b

-- States that a lowered step has the effect of a step of the module. This has to hold in each body
-- that belongs to the checked module, and for each bound `t` on the iterations of a loop.
abbrev pub LoweredStepRepresentsStep : {N : Type 0}
    → TypeMeanings N
    → (N → Slot)
    → (N → Target)
    → (BodyContext N → ℕ → execution.MachineState → execution.MachineProgress)
    → (BodyContext N → ℕ → State → Progress)
    → Type 0
LoweredStepRepresentsStep {N} checked slots targets low_step step =
    (b : BodyContext N)
    → IsBodyOfModule checked slots targets b
    → (t : ℕ) (low : execution.MachineState) (s : State)
    → MachineStateRepresentsState b.typing low s
    → MachineProgressRepresentsProgress b.typing (low_step b t low) (step b t s)

-- states that an instruction is correct code for a statement: it has the statement's effect
abbrev pub CodeMeansStatement : {N : Type 0}
    → TypeMeanings N
    → (N → Slot)
    → (N → Target)
    → lowered.Instruction
    → Tree N statement
    → Type 0
CodeMeansStatement checked slots targets c a =
    LoweredStepRepresentsStep checked slots targets (λ b t. execution.execute b.lowered_call_effect t b.levels c)
    (λ b t. execute_statement b.active b.call_effect t a)

-- states that instructions are correct code for a sequence of statements: they have its effect
abbrev pub CodeMeansSequence : {N : Type 0}
    → TypeMeanings N
    → (N → Slot)
    → (N → Target)
    → lowered.InstructionList
    → Tree N sequence
    → Type 0
CodeMeansSequence checked slots targets cs a =
    LoweredStepRepresentsStep checked slots targets (λ b t. execution.execute_sequence b.lowered_call_effect t b.levels cs)
    (λ b t. execute_sequence b.active b.call_effect t a)

-- States that instructions are correct code for the statements after the first one of a sequence.
abbrev pub CodeMeansStatementsAfterFirst : {N : Type 0}
    → TypeMeanings N
    → (N → Slot)
    → (N → Target)
    → lowered.InstructionList
    → Tree N (items statement_after_semicolon)
    → Type 0
CodeMeansStatementsAfterFirst checked slots targets cs rest =
    LoweredStepRepresentsStep checked slots targets (λ b t. execution.execute_sequence b.lowered_call_effect t b.levels cs)
    (λ b t. execute_further_statements b.active b.call_effect t rest)

-- States that instructions are correct code for an ELSE part. If there is no ELSE part, the
-- instructions have no effect.
abbrev pub CodeMeansElse : {N : Type 0}
    → TypeMeanings N
    → (N → Slot)
    → (N → Target)
    → lowered.InstructionList
    → Tree N (maybe else_part)
    → Type 0
CodeMeansElse checked slots targets cs last =
    LoweredStepRepresentsStep checked slots targets (λ b t. execution.execute_sequence b.lowered_call_effect t b.levels cs)
    (λ b t. execute_else b.active b.call_effect t last)

-- States that branches are correct code for ELSIF parts. Also states that the instructions `cs`,
-- which run if no condition is TRUE, are correct code for the ELSE part after them.
abbrev pub CodeMeansElsifs : {N : Type 0}
    → TypeMeanings N
    → (N → Slot)
    → (N → Target)
    → lowered.Branches
    → lowered.InstructionList
    → Tree N (items elsif_part)
    → Tree N (maybe else_part)
    → Type 0
CodeMeansElsifs checked slots targets bs cs rest last =
    LoweredStepRepresentsStep checked slots targets (λ b t. execution.execute_branches b.lowered_call_effect t b.levels bs
    (execution.execute_sequence b.lowered_call_effect t b.levels cs))
    (λ b t. execute_elsifs b.active b.call_effect t rest (execute_else b.active b.call_effect t last))

-- States that an expression consists only of the designator of a variable, and that the lowered
-- place `q` is correct code for this designator.
pub record IsLoneDesignatorOfPlace {N : Type 0} (checked : TypeMeanings N) (slots : N → Slot) (q : lowered.Place) (s : Shape)
    (e : Tree N expression) : Type 0 where
  pub name : N
  pub path : Tree N (items selector)
  pub shape : Shape
  pub is_designator : lone_designator e ≡ Some (name, path)
  pub is_variable : checked.object_for name ≡ Some (a_variable shape)
  pub place_means : PlaceHasOutcome checked slots q s (place_of_designator name path)

-- States that a lowered argument is correct code for an argument, given its parameter. For a VAR
-- parameter, the lowered argument is a place. For any other parameter, it is a number, a truth, or
-- the cells of an array or a record.
abbrev pub CodeMeansArgument : {N : Type 0}
    → TypeMeanings N
    → (N → Slot)
    → FormalParameter
    → lowered.LoweredArgument
    → Tree N expression
    → Type 0
CodeMeansArgument checked slots f (lowered.by_place q) e =
    (f.mode ≡ by_place) × IsLoneDesignatorOfPlace checked slots q f.shape e
CodeMeansArgument checked slots f (lowered.by_number n) e =
    (f.mode ≡ by_value)
    × (f.shape ≡ integer_shape)
    × NumberHasOutcome checked slots n (value_of_expression e)
CodeMeansArgument checked slots f (lowered.by_truth t) e =
    (f.mode ≡ by_value)
    × (f.shape ≡ boolean_shape)
    × TruthHasOutcome checked slots t (value_of_expression e)
CodeMeansArgument checked slots f (lowered.by_block q n) e =
    (f.mode ≡ by_value)
    × (n ≡ shape_cell_count f.shape)
    × PlaceHoldsValue checked slots q f.shape (value_of_expression e)

-- States that each lowered argument is correct code for the argument at the same index. The numbers
-- of parameters, of lowered arguments and of arguments have to be the same.
abbrev pub CodeMeansArguments : {N : Type 0}
    → TypeMeanings N
    → (N → Slot)
    → Signature
    → List lowered.LoweredArgument
    → List (Tree N expression)
    → Type 0
CodeMeansArguments checked slots [] [] [] = Unit {0}
CodeMeansArguments checked slots (f ∷ fs) (c ∷ cs) (e ∷ es) =
    CodeMeansArgument checked slots f c e × CodeMeansArguments checked slots fs cs es
CodeMeansArguments checked slots _ _ _ = ⊥
