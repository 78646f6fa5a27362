-- Defines runs by big-step semantics: the meaning of statements, calls and whole modules. A run
-- depends on an environment, a store and the remaining input. It also depends on two bounds: `c` on
-- the number of open calls, and `t` on the iterations of each loop.
-- Rule: docs/LANGUAGE.md, Runs 1 to 10.
use Rattle.std.specs.Prelude.{ℕ, zero, suc, ◌+◌, ◌-◌, true, false, List, [], ◌∷◌, ◌++◌, map, length, ℤ, Some, None, Option, option_map, option_and_then}
use Rattle.ob0_tree.specs.Tree.{Tree, assigns, begins, block, body, branches, calls, declares_variable, else_branch, else_part, elsif_branch, elsif_part, empty, end, expression, section_after_semicolon, statement_after_semicolon, item, items, maybe, module_text, more, none, one, procedure, repeat_loop, runs, sequence, statement, semicolon_then_section, semicolon_then_statement, variable, while_loop}
use Rattle.ob0_language_names.specs.Names.{Label, Name, Naming, naming_by_label, naming_by_spelling}
use Rattle.ob0_language_names.specs.BlockParts.{block_procedures, block_statements, block_variables, module_block, names_in_list, procedure_block, procedure_formals, procedure_name, parameter_section_names}
use Rattle.ob0_language_types.specs.Arguments.{call_arguments}
use Rattle.ob0_language_types.specs.Declarations.{constructor_count_before_procedure_block, constructor_count_before_variables, constructor_count_before_procedures, declare_constants_and_types, procedure_constructor_count}
use Rattle.ob0_language_types.specs.Environments.{Environment, suffix_from_newest_binding, meanings, outermost_environment}
use Rattle.ob0_language_types.specs.Expressions.{Meanings, Object, a_constant, a_procedure, a_standard_procedure, a_type, a_variable, designated_place, evaluate_expression, read_procedure, write_procedure, write_line_procedure}
use Rattle.ob0_language_types.specs.Typing.{constructor_count, denoted_type, lone_designator}
use Rattle.ob0_language_values.specs.Values.{CallBound, Done, End, InputEnd, Outcome, Place, Store, Stuck, TurnBound, Value, ends_run_with, succeeds_with, initial_value, number, result_or_stuck, truth, write_place, ◌>>=◌}
use Rattle.ob0_language_types.specs.WellTyped.{ParameterMode, by_place, by_value, parameter_section_mode}

-- an item of output: a number or an end of line
pub data PrintedItem : Type 0 where
  printed_number : ℤ → PrintedItem
  printed_line_end : PrintedItem

-- the state of a run: its store, the input that isn't read yet, and the output so far
pub record State : Type 0 where
  pub store : Store
  pub input : List ℤ
  pub output : List PrintedItem

-- the progress of a run: it continues with a state, or it has stopped; a stopped run has the reason why it ended
-- (`End`) and the output before its end
pub data Progress : Type 0 where
  running : State → Progress
  stopped : End → List PrintedItem → Progress

-- an evaluated argument of a call: a place for a VAR parameter, or a copy of a value for any other parameter
pub data Argument : Type 0 where
  place_argument : Place → Argument
  value_argument : Value → Argument

-- continues a run by applying `next` to the result of an evaluation; if the evaluation ends the run, returns this end
-- with the output of the state `s`
abbrev pub continue_with_result : {A : Type 0} → State → Outcome A → (A → Progress) → Progress
continue_with_result s (succeeds_with a) next = next a
continue_with_result s (ends_run_with e) next = stopped e s.output

-- continues a run with the function `next`; a run that has ended is left unchanged
abbrev pub continue_if_running : Progress → (State → Progress) → Progress
continue_if_running (running s) next = next s
continue_if_running (stopped e out) next = stopped e out

-- continues a run from the state `s` with one of two functions: `when_true` if the value is TRUE, `when_false` if the
-- value is FALSE; any other value ends the run with Stuck
abbrev pub choose_by_truth_value : State → Value → (State → Progress) → (State → Progress) → Progress
choose_by_truth_value s (truth true) when_true when_false = when_true s
choose_by_truth_value s (truth false) when_true when_false = when_false s
choose_by_truth_value s _ when_true when_false = stopped Stuck s.output

-- returns the state with one more item of output
abbrev pub append_output : State → PrintedItem → State
append_output s i = record s { output = s.output ++ i ∷ [] }

-- stores a value at a place; ends the run with Stuck if there is no such place
abbrev pub store_value_at_place : State → Place → Value → Progress
store_value_at_place s p v =
    continue_with_result s (result_or_stuck (write_place s.store p v)) (λ store. running record s { store = store })

-- stores the next number of the input at the place `p`; the last argument is the input that isn't
-- read yet; ends the run with InputEnd if this input is empty
abbrev pub read_number : State → Place → List ℤ → Progress
read_number s p [] = stopped InputEnd s.output
read_number s p (n ∷ rest) = store_value_at_place record s { input = rest } p (number n)

-- returns the modes in which the arguments of a call are passed, by place or by value; the end
-- Stuck if the called object isn't a procedure
abbrev pub argument_modes_of : Option (Object Place (List ParameterMode)) → Outcome (List ParameterMode)
argument_modes_of (Some (a_procedure modes)) = succeeds_with modes
argument_modes_of (Some (a_standard_procedure read_procedure)) = succeeds_with (by_place ∷ [])
argument_modes_of (Some (a_standard_procedure write_procedure)) = succeeds_with (by_value ∷ [])
argument_modes_of (Some (a_standard_procedure write_line_procedure)) = succeeds_with []
argument_modes_of _ = ends_run_with Stuck

-- evaluates an argument: to its place for a VAR parameter, otherwise to a copy of its value (docs/LANGUAGE.md, Runs 6)
unfoldable pub evaluate_argument : {N P : Type 0}
    → Meanings N Place P
    → Store
    → ParameterMode
    → Tree N expression
    → Outcome Argument
unfolding designated_place evaluate_expression
evaluate_argument meaning store by_value e = do
  v ← evaluate_expression meaning store e
  succeeds_with (value_argument v)
evaluate_argument meaning store by_place e = do
  d ← result_or_stuck (lone_designator e)
  p ← designated_place meaning store d.0 d.1
  succeeds_with (place_argument p)

-- evaluates the arguments of a call from left to right, each in the mode of its parameter; returns
-- the end Stuck if there are more or fewer arguments than modes
unfoldable pub evaluate_arguments : {N P : Type 0}
    → Meanings N Place P
    → Store
    → List ParameterMode
    → List (Tree N expression)
    → Outcome (List Argument)
unfolding evaluate_argument
evaluate_arguments meaning store [] [] = succeeds_with []
evaluate_arguments meaning store (m ∷ ms) (e ∷ es) = do
  a ← evaluate_argument meaning store m e
  rest ← evaluate_arguments meaning store ms es
  succeeds_with (a ∷ rest)
evaluate_arguments meaning store _ _ = ends_run_with Stuck

-- Performs a call with evaluated arguments. `enter` performs the call of a declared procedure. A standard procedure is
-- performed here, so it doesn't count towards the bound on calls. Ends the run with Stuck if the object isn't a
-- procedure or the arguments don't fit a standard procedure.
abbrev pub perform_call : Option (Object Place (List ParameterMode))
    → (List Argument → State → Progress)
    → List Argument
    → State
    → Progress
perform_call (Some (a_procedure modes)) enter args s = enter args s
perform_call (Some (a_standard_procedure read_procedure)) enter (place_argument p ∷ []) s = read_number s p s.input
perform_call (Some (a_standard_procedure write_procedure)) enter (value_argument (number n) ∷ []) s =
    running (append_output s (printed_number n))
perform_call (Some (a_standard_procedure write_line_procedure)) enter [] s = running (append_output s printed_line_end)
perform_call _ enter args s = stopped Stuck s.output

-- Executes a WHILE statement. The first argument is how many iterations may still be made. If the condition is FALSE,
-- the statement ends. If the condition is TRUE, another iteration is made. If the first argument is 0, the run ends
-- with TurnBound instead of making this iteration.
abbrev pub execute_while : ℕ → (State → Outcome Value) → (State → Progress) → State → Progress
execute_while zero condition statements s =
    continue_with_result s (condition s) (λ v. choose_by_truth_value s v (λ s'. stopped TurnBound s'.output) running)
execute_while (suc t) condition statements s =
    continue_with_result s (condition s) (λ v. choose_by_truth_value s v
    (λ s'. continue_if_running (statements s') (execute_while t condition statements)) running)

-- a function that performs a call, given the name of the called procedure, the evaluated arguments
-- and the state before the call
abbrev pub CallFunction : Type 0 → Type 0
CallFunction N = N → List Argument → State → Progress

-- Executes a REPEAT statement: makes an iteration and then evaluates the condition. The first argument is how many
-- iterations may be made after this one. If the condition is TRUE, the statement ends. If the condition is FALSE,
-- another iteration is made. If the first argument is 0, the run ends with TurnBound instead of making this iteration.
abbrev pub execute_repeat : ℕ → (State → Outcome Value) → (State → Progress) → State → Progress
execute_repeat zero condition turn s =
    continue_if_running (turn s) (λ s'. continue_with_result s' (condition s')
    (λ v. choose_by_truth_value s' v running (λ s''. stopped TurnBound s''.output)))
execute_repeat (suc t) condition turn s =
    continue_if_running (turn s)
    (λ s'. continue_with_result s' (condition s') (λ v. choose_by_truth_value s' v running (execute_repeat t condition turn)))

-- Executes a statement. An assignment first determines the place on its left side, then evaluates its right side, and
-- then stores a copy of the value.
unfoldable mutual
  unfolding evaluate_expression designated_place evaluate_arguments

  -- executes one statement; `enter` performs calls of declared procedures, and `t` bounds the iterations of each loop
  pub execute_statement : {N : Type 0}
      → Meanings N Place (List ParameterMode)
      → CallFunction N
      → ℕ
      → Tree N statement
      → State
      → Progress
  execute_statement meaning enter t empty s = running s
  execute_statement meaning enter t (assigns x path e) s =
      continue_with_result s (designated_place meaning s.store x path)
      (λ p. continue_with_result s (evaluate_expression meaning s.store e) (store_value_at_place s p))
  execute_statement meaning enter t (calls x es) s =
      continue_with_result s (argument_modes_of (meaning.object_for x) >>=
      (λ modes. evaluate_arguments meaning s.store modes (call_arguments es)))
      (λ args. perform_call (meaning.object_for x) (enter x) args s)
  execute_statement meaning enter t (branches e statements rest last) s =
      continue_with_result s (evaluate_expression meaning s.store e) (λ v. choose_by_truth_value s v
      (execute_sequence meaning enter t statements)
      (execute_elsifs meaning enter t rest (execute_else meaning enter t last)))
  execute_statement meaning enter t (while_loop e statements) s =
      execute_while t (λ s'. evaluate_expression meaning s'.store e) (execute_sequence meaning enter t statements) s
  execute_statement meaning enter t (repeat_loop statements e) s =
      execute_repeat (t - 1) (λ s'. evaluate_expression meaning s'.store e)
      (execute_sequence meaning enter t statements) s

  -- executes a sequence of statements in text order; stops if a statement ends the run
  pub execute_sequence : {N : Type 0}
      → Meanings N Place (List ParameterMode)
      → CallFunction N
      → ℕ
      → Tree N sequence
      → State
      → Progress
  execute_sequence meaning enter t (runs a rest) s =
      continue_if_running (execute_statement meaning enter t a s) (execute_further_statements meaning enter t rest)

  -- executes the statements of a sequence after the first one
  pub execute_further_statements : {N : Type 0}
      → Meanings N Place (List ParameterMode)
      → CallFunction N
      → ℕ
      → Tree N (items statement_after_semicolon)
      → State
      → Progress
  execute_further_statements meaning enter t end s = running s
  execute_further_statements meaning enter t (more (semicolon_then_statement a) rest) s =
      continue_if_running (execute_statement meaning enter t a s) (execute_further_statements meaning enter t rest)

  -- executes the statements of the first ELSIF part whose condition is TRUE; if no condition is TRUE, continues with
  -- `otherwise`
  pub execute_elsifs : {N : Type 0}
      → Meanings N Place (List ParameterMode)
      → CallFunction N
      → ℕ
      → Tree N (items elsif_part)
      → (State → Progress)
      → State
      → Progress
  execute_elsifs meaning enter t end otherwise s = otherwise s
  execute_elsifs meaning enter t (more (elsif_branch e statements) rest) otherwise s =
      continue_with_result s (evaluate_expression meaning s.store e) (λ v. choose_by_truth_value s v
      (execute_sequence meaning enter t statements) (execute_elsifs meaning enter t rest otherwise))

  -- executes the statements of the ELSE part; does nothing if there is no ELSE part
  pub execute_else : {N : Type 0}
      → Meanings N Place (List ParameterMode)
      → CallFunction N
      → ℕ
      → Tree N (maybe else_part)
      → State
      → Progress
  execute_else meaning enter t none s = running s
  execute_else meaning enter t (one (else_branch statements)) s =
      execute_sequence meaning enter t statements s

-- The data about a procedure in a run: its tree (`text`), and the number of words ARRAY and RECORD
-- before it (`constructors_before`). The procedure's array and record types are numbered from this
-- number.
pub record ProcedureText (N : Type 0) : Type 0 where
  pub constructors_before : ℕ
  pub text : Tree N (item procedure)

-- the bindings of names in an activation: an environment with the place of each variable and the
-- `ProcedureText` of each procedure
abbrev pub RunEnvironment : Type 0 → Type 0
RunEnvironment N = Environment N Place (ProcedureText N)

-- the environment and the store in which a block's statements are executed
pub record Frame (N : Type 0) : Type 0 where
  pub env : RunEnvironment N
  pub store : Store

-- Returns the frame with one more variable for each name. The variables are added at the end of the store, all with the
-- value `v`, and each name is bound to its variable.
abbrev pub add_variables_to_frame : {N : Type 0} → List N → Value → Frame N → Frame N
add_variables_to_frame [] v f = f
add_variables_to_frame (x ∷ xs) v f =
    add_variables_to_frame xs v record {
      env
          = (x, a_variable record { variable = length f.store; path = [] }) ∷ f.env;
      store = f.store ++ v ∷ [];
    }

-- Returns the frame with declared variables added. In their values, each number is 0 and each truth
-- value is FALSE. Array and record types are numbered from `k`, the count of words ARRAY and RECORD
-- before these declarations. Returns None if a type has an error.
unfoldable pub declare_variables : {N : Type 0}
    → Naming N
    → ℕ
    → Tree N (items variable)
    → Frame N
    → Option (Frame N)
unfolding denoted_type
declare_variables naming k end f = Some f
declare_variables naming k (more (declares_variable ns u) gs) f =
    option_and_then (λ s. declare_variables naming (k + constructor_count u) gs
    (add_variables_to_frame (names_in_list ns) (initial_value s) f))
    (denoted_type (meanings naming f.env) k u)

-- Returns the environment `env` with these procedures added. Each is bound to its tree and to the
-- number of words ARRAY and RECORD before it. `k` is this number for the first procedure.
abbrev pub declare_procedures : {N : Type 0}
    → ℕ
    → Tree N (items procedure)
    → RunEnvironment N
    → RunEnvironment N
declare_procedures k end env = env
declare_procedures k (more p rest) env =
    declare_procedures (k + procedure_constructor_count p) rest
    ((procedure_name p, a_procedure record { constructors_before = k; text = p }) ∷ env)

-- returns the frame with the procedures of a block added to its environment; array and record types
-- are numbered from `k`, the count of words ARRAY and RECORD before the procedures
abbrev pub declare_procedures_in_frame : {N : Type 0} → ℕ → Tree N (items procedure) → Frame N → Frame N
declare_procedures_in_frame k ps f = record { env = declare_procedures k ps f.env; store = f.store }

-- Returns the frame with a block's constants, types, variables and procedures added, in this order.
-- Array and record types are numbered from `k`, the count of words ARRAY and RECORD before the
-- block. Returns None if a constant, type or variable has an error.
unfoldable pub declare_block_in_frame : {N : Type 0}
    → Naming N
    → ℕ
    → Tree N block
    → Frame N
    → Option (Frame N)
unfolding declare_constants_and_types declare_variables
declare_block_in_frame naming k b f =
    option_and_then (λ env. option_map (declare_procedures_in_frame (constructor_count_before_procedures k b) (block_procedures b))
    (declare_variables naming (constructor_count_before_variables k b) (block_variables b)
    record { env = env; store = f.store }))
    (declare_constants_and_types naming f.env k b)

-- Returns the frame with a parameter bound to its argument. A VAR parameter is bound to the
-- argument's place. Any other parameter is bound to a new variable with the argument's value.
-- Returns None if a VAR parameter gets a value, or another parameter gets a place.
abbrev pub bind_parameter : {N : Type 0} → ParameterMode → N → Argument → Frame N → Option (Frame N)
bind_parameter by_place x (place_argument p) f =
    Some record { env = (x, a_variable p) ∷ f.env; store = f.store }
bind_parameter by_value x (value_argument v) f = Some (add_variables_to_frame (x ∷ []) v f)
bind_parameter _ x _ f = None

-- a formal parameter of a procedure: its mode and its name
pub record Parameter (N : Type 0) : Type 0 where
  pub mode : ParameterMode
  pub name : N

-- returns the formal parameters of a procedure heading, in text order
abbrev pub formal_parameters_in_sections : {N : Type 0} → Tree N (items section_after_semicolon) → List (Parameter N)
formal_parameters_in_sections end = []
formal_parameters_in_sections (more (semicolon_then_section f) fs) =
    map (λ x. record { mode = parameter_section_mode f; name = x }) (parameter_section_names f) ++ formal_parameters_in_sections fs

-- returns the frame with all parameters of a procedure bound to the arguments of a call; None if there are more or
-- fewer arguments than parameters, or if `bind_parameter` returns None for one of them
abbrev pub bind_parameters : {N : Type 0}
    → List (Parameter N)
    → List Argument
    → Frame N
    → Option (Frame N)
bind_parameters [] [] f = Some f
bind_parameters (p ∷ ps) (a ∷ args) f =
    option_and_then (bind_parameters ps args) (bind_parameter p.mode p.name a f)
bind_parameters _ _ f = None

-- returns the modes of a procedure's parameters, in text order
abbrev pub formal_parameter_modes : {N : Type 0} → Tree N (items section_after_semicolon) → List ParameterMode
formal_parameter_modes end = []
formal_parameter_modes (more (semicolon_then_section f) fs) =
    map (λ x. parameter_section_mode f) (parameter_section_names f) ++ formal_parameter_modes fs

-- Returns a name's object with only the data that statements need. A procedure keeps only the modes
-- of its parameters. Any other object is unchanged.
abbrev pub object_for_statements : {N : Type 0}
    → Option (Object Place (ProcedureText N))
    → Option (Object Place (List ParameterMode))
object_for_statements None = None
object_for_statements (Some (a_type s)) = Some (a_type s)
object_for_statements (Some (a_constant v)) = Some (a_constant v)
object_for_statements (Some (a_variable p)) = Some (a_variable p)
object_for_statements (Some (a_procedure code)) = Some (a_procedure (formal_parameter_modes (procedure_formals code.text)))
object_for_statements (Some (a_standard_procedure p)) = Some (a_standard_procedure p)

-- returns the meanings of names for the statements of an activation
abbrev pub meanings_for_statements : {N : Type 0}
    → Naming N
    → RunEnvironment N
    → Meanings N Place (List ParameterMode)
meanings_for_statements naming env =
    record
    { object_for = λ x. object_for_statements ((meanings naming env).object_for x); written = naming.written }

-- executes the statements of a block (its body); does nothing if the block has no statements
unfoldable pub execute_body : {N : Type 0}
    → Naming N
    → RunEnvironment N
    → CallFunction N
    → ℕ
    → Tree N (maybe body)
    → State
    → Progress
unfolding execute_statement
execute_body naming env enter t none s = running s
execute_body naming env enter t (one (begins statements)) s =
    execute_sequence (meanings_for_statements naming env) enter t statements s

-- continues a run from the state `s`, with the store of the given frame, by applying `next`; ends
-- the run with Stuck if the frame is None
abbrev pub continue_in_frame : {N : Type 0}
    → State
    → Option (Frame N)
    → (Frame N → State → Progress)
    → Progress
continue_in_frame s None next = stopped Stuck s.output
continue_in_frame s (Some f) next = next f record s { store = f.store }

-- Executes the procedure in the first binding of an environment. Adds the parameters, bound to the arguments, and the
-- procedure's own declarations to this environment, and executes the procedure's body in it. Ends the run with Stuck if
-- the binding isn't a procedure, the arguments don't match the parameters, or a declaration has an error.
unfoldable pub execute_newest_procedure : {N : Type 0}
    → Naming N
    → (RunEnvironment N → CallFunction N)
    → ℕ
    → RunEnvironment N
    → List Argument
    → State
    → Progress
unfolding declare_block_in_frame execute_body
execute_newest_procedure naming enter t ((x, a_procedure code) ∷ rest) args s =
    continue_in_frame s (option_and_then
    (declare_block_in_frame naming (constructor_count_before_procedure_block code.constructors_before code.text)
    (procedure_block code.text))
    (bind_parameters (formal_parameters_in_sections (procedure_formals code.text)) args
    record { env = (x, a_procedure code) ∷ rest; store = s.store }))
    (λ f. execute_body naming f.env (enter f.env) t (block_statements (procedure_block code.text)))
execute_newest_procedure naming enter t _ args s = stopped Stuck s.output

-- Performs the call of the procedure `x`. The first number is how many nested calls are still allowed, including this
-- call. If this number is 0, the run ends with CallBound. The second number bounds the iterations of each loop. The
-- store keeps the call's variables after the call returns.
unfoldable pub call_keeping_variables : {N : Type 0} → Naming N → ℕ → ℕ → RunEnvironment N → CallFunction N
unfolding execute_newest_procedure
call_keeping_variables naming zero t env x args s = stopped CallBound s.output
call_keeping_variables naming (suc c) t env x args s =
    execute_newest_procedure naming (call_keeping_variables naming c t) t (suffix_from_newest_binding naming env x) args s

-- the result of a run: its output and the reason why it ended (`End`)
pub record Run : Type 0 where
  pub output : List PrintedItem
  pub ending : End

-- returns the result of a run, given its progress after the module's body; a run that reaches the end of the body ends
-- with Done
abbrev pub run_result : Progress → Run
run_result (running s) = record { output = s.output; ending = Done }
run_result (stopped e out) = record { output = out; ending = e }

-- returns the result of running a module's tree with this input; `enter` performs calls in an environment, and `t`
-- bounds the iterations of each loop
unfoldable pub run_with_call_function : {N : Type 0}
    → Naming N
    → (RunEnvironment N → CallFunction N)
    → ℕ
    → Tree N module_text
    → List ℤ
    → Run
unfolding declare_block_in_frame execute_body
run_with_call_function naming enter t m input =
    let start : State = record { store = []; input = input; output = [] } in
    run_result (continue_in_frame start
    (declare_block_in_frame naming 0 (module_block m) record { env = outermost_environment naming; store = [] })
    (λ f. execute_body naming f.env (enter f.env) t (block_statements (module_block m))))

-- returns the result of running a module's tree whose names are interpreted by `naming`; `c` bounds the number of open
-- calls, and `t` bounds the iterations of each loop
unfoldable pub run_with_naming : {N : Type 0} → Naming N → Tree N module_text → List ℤ → ℕ → ℕ → Run
unfolding run_with_call_function call_keeping_variables
run_with_naming naming m input c t = run_with_call_function naming (call_keeping_variables naming c t) t m input

-- returns the result of running a module with this input; the first number bounds the open calls, and the second number
-- bounds the iterations of each loop
unfoldable pub run : Tree Name module_text → List ℤ → ℕ → ℕ → Run
unfolding run_with_naming
run = run_with_naming naming_by_spelling

-- returns the result of running a numbered tree with this input; the first number bounds the open calls, and the second
-- number bounds the iterations of each loop
unfoldable pub run_numbered : Tree Label module_text → List ℤ → ℕ → ℕ → Run
unfolding run_with_naming
run_numbered = run_with_naming naming_by_label
