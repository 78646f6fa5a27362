-- States where lowered code finds the variables and procedures of a module, and when a program is
-- correct code for a module (`ProgramMeansModule`). A placement (`Placement`) gives each name of an
-- environment its place. A variable has a slot, its place as the running activation sees it. A
-- procedure has a target, the routine that a call reaches.
-- - The module's variables are `in_module_activation`, at offsets that begin with 0.
-- - A procedure's variables are `in_activation 0`, after its value parameters.
-- - A VAR parameter is `by_reference 0`, with its index among the VAR parameters.
-- - A procedure may have any index at which the routine table has correct code for its block.
--
-- `PlacementMatchesActivation` states that each binding of an activation has the right place. For a
-- procedure, it uses the placement at the procedure's declaration (`BindingIsPlaced`). So no slot
-- has to be translated back to an outer level.
-- Rule: docs/LANGUAGE.md, Runs 1, 6.
use Rattle.std.specs.Prelude.{◌≡◌, ℕ, suc, ◌+◌, true, false, List, [], ◌∷◌, drop, slice_get, Some}
use Rattle.ob0_tree.specs.Tree.{Tree, begins, block, body, declares, declares_procedure, declares_variable, end, forms_block, item, items, maybe, module_text, more, none, one, procedure, variable}
use Rattle.ob0_language_names.specs.Names.{Label, Naming, naming_by_label}
use Rattle.ob0_language_names.specs.BlockParts.{block_constants, block_types, block_variables, constant_names, formal_parameter_sections, module_block, declared_type_names, names_in_list, procedure_formals, procedure_name}
use Rattle.ob0_language_types.specs.Declarations.{constructor_count_before_variables, constructor_count_before_procedures, declare_constants_and_types, formals_constructor_count, procedure_constructor_count}
use Rattle.ob0_language_types.specs.Environments.{meanings, outermost_environment}
use Rattle.ob0_language_types.specs.Expressions.{Object, a_constant, a_procedure, a_standard_procedure, a_type, a_variable}
use Rattle.ob0_language_types.specs.WellTyped.{ParameterMode, Signature, TypeEnvironment, TypedParameter, bind_typed_parameters, by_place, by_value, declare_typed_variables, bind_procedure, typed_parameters}
use Rattle.ob0_language_values.specs.Values.{Place, Shape}
use Rattle.ob0_language_runs.specs.TypeAgreement.{PlaceHasType, StoreTyping}
use Rattle.ob0_language_runs.specs.Runs.{RunEnvironment, ProcedureText}
use Rattle.ob0_run_machine.specs.Evaluation.{Levels}
use Rattle.ob0_run_machine.specs.LoweredSyntax as lowered
use Rattle.ob0_run_cells.specs.Cells.{address_of_place, shape_cell_count}
use Rattle.ob0_run_cells.specs.LoweredStatements.{CodeMeansSequence, Target}
use Rattle.ob0_run_cells.specs.LoweredExpressions.{Slot, in_activation, by_reference, in_module_activation, slot_address}

-- The place of a declaration in lowered code: a slot for a variable, a target for a procedure, or
-- `nowhere` for any other declaration.
pub data BindingPlace : Type 0 where
  nowhere : BindingPlace
  in_slot : Slot → BindingPlace
  at_target : Target → BindingPlace

-- The type of a list of names with their places in lowered code. The name that was bound last is
-- first, as in an environment.
abbrev pub Placement : Type 0 → Type 0
Placement N = List (N × BindingPlace)

-- Returns the suffix of a placement that begins with the latest binding of a name. The suffix is
-- empty if the name isn't bound.
abbrev pub suffix_from_latest_binding : {N : Type 0} → Naming N → Placement N → N → Placement N
suffix_from_latest_binding naming [] x = []
suffix_from_latest_binding naming (b ∷ placement) x =
    elim (naming.same x b.0) [ true ↦ b ∷ placement | false ↦ suffix_from_latest_binding naming placement x ]

-- returns the slot of a variable, or the module's first cell if the place isn't a slot
abbrev pub slot_of_binding_place : BindingPlace → Slot
slot_of_binding_place nowhere = in_module_activation 0
slot_of_binding_place (in_slot s) = s
slot_of_binding_place (at_target t) = in_module_activation 0

-- returns the target of a procedure, or the target with the index 0 that is 0 levels out if the
-- place isn't a target
abbrev pub target_of_binding_place : BindingPlace → Target
target_of_binding_place nowhere = record { procedure = 0; up = 0 }
target_of_binding_place (in_slot s) = record { procedure = 0; up = 0 }
target_of_binding_place (at_target t) = t

-- Returns the slot of the first binding of a placement. Returns the module's first cell if this
-- binding has no slot or the placement is empty.
abbrev pub slot_of_first_binding : {N : Type 0} → Placement N → Slot
slot_of_first_binding [] = in_module_activation 0
slot_of_first_binding (b ∷ placement) = slot_of_binding_place b.1

-- Returns the target of the first binding of a placement. If this binding has no target or the
-- placement is empty, returns the target with the index 0 that is 0 levels out.
abbrev pub target_of_first_binding : {N : Type 0} → Placement N → Target
target_of_first_binding [] = record { procedure = 0; up = 0 }
target_of_first_binding (b ∷ placement) = target_of_binding_place b.1

-- returns the slot of a name in a placement, or the module's first cell if the name has no slot
abbrev pub slot_in_placement : {N : Type 0} → Naming N → Placement N → N → Slot
slot_in_placement naming placement x = slot_of_first_binding (suffix_from_latest_binding naming placement x)

-- returns the target of a name in a placement, or the target with the index 0 that is 0 levels out
-- if the name has no target
abbrev pub target_in_placement : {N : Type 0} → Naming N → Placement N → N → Target
target_in_placement naming placement x = target_of_first_binding (suffix_from_latest_binding naming placement x)

-- returns the same slot, as seen from an activation that is nested one level deeper
abbrev pub slot_seen_one_level_deeper : Slot → Slot
slot_seen_one_level_deeper (in_module_activation at) = in_module_activation at
slot_seen_one_level_deeper (in_activation up at) = in_activation (suc up) at
slot_seen_one_level_deeper (by_reference up at) = by_reference (suc up) at

-- returns the same place of a declaration, as seen from an activation that is nested one level
-- deeper
abbrev pub binding_place_seen_one_level_deeper : BindingPlace → BindingPlace
binding_place_seen_one_level_deeper nowhere = nowhere
binding_place_seen_one_level_deeper (in_slot s) = in_slot (slot_seen_one_level_deeper s)
binding_place_seen_one_level_deeper (at_target t) = at_target record t { up = suc t.up }

-- returns the same placement, as seen from an activation that is nested one level deeper
abbrev pub placement_seen_one_level_deeper : {N : Type 0} → Placement N → Placement N
placement_seen_one_level_deeper [] = []
placement_seen_one_level_deeper (b ∷ placement) = (b.0, binding_place_seen_one_level_deeper b.1) ∷ placement_seen_one_level_deeper placement

-- The state while the names of an activation get their places. It has the placement so far, and the
-- numbers of cells and of VAR parameters so far.
pub record PlacementState (N : Type 0) : Type 0 where
  pub placement : Placement N
  pub cells : ℕ
  pub var_parameters_so_far : ℕ

-- Adds the name `x` to a placement. A variable or a value parameter gets the next `n` cells, and
-- `at` converts the offset of these cells to a slot. A VAR parameter gets the next index among the
-- VAR parameters.
abbrev pub add_name_to_placement : {N : Type 0} → (ℕ → Slot) → ParameterMode → N → ℕ → PlacementState N → PlacementState N
add_name_to_placement at by_value x n p =
    record p { placement = (x, in_slot (at p.cells)) ∷ p.placement; cells = p.cells + n }
add_name_to_placement at by_place x n p =
    record p {
      placement = (x, in_slot (by_reference 0 p.var_parameters_so_far)) ∷ p.placement;
      var_parameters_so_far = suc p.var_parameters_so_far;
    }

-- Adds the names of one declaration to a placement, one by one. `size_of` returns the number of
-- cells of a name, and `at` converts the offset of a variable to its slot.
abbrev pub add_declared_names_to_placement : {N : Type 0} → (ℕ → Slot) → (N → ℕ) → ParameterMode → List N → PlacementState N
    → PlacementState N
add_declared_names_to_placement at size_of mode [] p = p
add_declared_names_to_placement at size_of mode (x ∷ xs) p =
    add_declared_names_to_placement at size_of mode xs (add_name_to_placement at mode x (size_of x) p)

-- adds the variables of a block to a placement, one by one
abbrev pub place_variable_declarations : {N : Type 0}
    → (ℕ → Slot)
    → (N → ℕ)
    → Tree N (items variable)
    → PlacementState N
    → PlacementState N
place_variable_declarations at size_of end p = p
place_variable_declarations at size_of (more (declares_variable ns u) gs) p =
    place_variable_declarations at size_of gs (add_declared_names_to_placement at size_of by_value (names_in_list ns) p)

-- Adds the parameters of a procedure to a placement, one by one.
abbrev pub place_parameters : {N : Type 0} → List (TypedParameter N) → PlacementState N → PlacementState N
place_parameters [] p = p
place_parameters (q ∷ ps) p =
    place_parameters ps (add_name_to_placement (in_activation 0) q.formal.mode q.name (shape_cell_count q.formal.shape) p)

-- Adds names to a placement, each without a place in lowered code (`nowhere`). Names of constants
-- and types, for example, have no place.
abbrev pub add_names_without_place : {N : Type 0} → List N → Placement N → Placement N
add_names_without_place [] placement = placement
add_names_without_place (x ∷ xs) placement = add_names_without_place xs ((x, nowhere) ∷ placement)

-- Adds the names that a block declares to a placement, except the names of its procedures.
abbrev pub place_declarations : {N : Type 0} → (ℕ → Slot) → (N → ℕ) → Tree N block → PlacementState N
    → PlacementState N
place_declarations at size_of b p =
    place_variable_declarations at size_of (block_variables b) record p {
      placement
          = add_names_without_place (declared_type_names (block_types b))
          (add_names_without_place (constant_names (block_constants b)) p.placement);
    }

-- States that an object is a variable of `n` cells, or isn't a variable.
abbrev pub HasSizeIfVariable : ℕ → Object Shape Signature → Type 0
HasSizeIfVariable n (a_variable s) = n ≡ shape_cell_count s
HasSizeIfVariable n other = Unit {0}

-- States that `size_of` returns the number of cells of each variable in an environment.
abbrev pub ReturnsSizesOfVariables : {N : Type 0} → (N → ℕ) → TypeEnvironment N → Type 0
ReturnsSizesOfVariables size_of [] = Unit {0}
ReturnsSizesOfVariables size_of (b ∷ env) = HasSizeIfVariable (size_of b.0) b.1 × ReturnsSizesOfVariables size_of env

-- returns the place of the procedure with this index: a target, as seen from the activation in
-- which the procedure is declared
abbrev pub local_procedure_target : ℕ → BindingPlace
local_procedure_target i = at_target record { procedure = i; up = 0 }

-- Returns the placement inside a procedure, with its numbers of cells and of VAR parameters. It has
-- the names around the procedure, as seen from one level deeper, and the procedure's parameters.
abbrev pub placement_inside_procedure : {N : Type 0} → List (TypedParameter N) → Placement N → PlacementState N
placement_inside_procedure ps placement =
    place_parameters ps record { placement = placement_seen_one_level_deeper placement; cells = 0; var_parameters_so_far = 0 }

-- States that `code` is correct code for a body, in the environment in which the body's statements
-- are checked. If there is no body, `code` has to be empty.
abbrev pub CodeMeansBody : {N : Type 0}
    → Naming N
    → TypeEnvironment N
    → Placement N
    → lowered.InstructionList
    → Tree N (maybe body)
    → Type 0
CodeMeansBody naming checked placement code none = code ≡ lowered.no_statement
CodeMeansBody naming checked placement code (one (begins statements)) =
    CodeMeansSequence (meanings naming checked) (slot_in_placement naming placement) (target_in_placement naming placement)
    code statements

-- The lowered procedures of a module, and the naming, which decides whether two names are the same.
pub record RoutineTable (N : Type 0) : Type 0 where
  pub routines : List lowered.Routine
  pub naming : Naming N

-- returns the routine table of a module whose names are labels, with these procedures
abbrev pub routine_table_by_label : List lowered.Routine → RoutineTable Label
routine_table_by_label routines = record { routines = routines; naming = naming_by_label }

-- States that the routine at the index `index` of the table is correct code for the procedure with
-- the tree `text` (LANGUAGE.md, Runs 6). The procedure is declared in the environment `checked`,
-- with the placement `placement`. `Means` says when a routine is correct, given the environment and
-- the placement that include the procedure and its parameters.
pub record RoutineAtIndexMeansProcedure {N : Type 0} (table : RoutineTable N) (checked : TypeEnvironment N)
    (placement : Placement N) (x : N) (k : ℕ) (text : Tree N (item procedure)) (index : ℕ)
    (Means : TypeEnvironment N → PlacementState N → lowered.Routine → Type 0) : Type 0 where
  pub parameters : List (TypedParameter N)
  pub routine : lowered.Routine
  pub are_typed : typed_parameters table.naming checked k (procedure_formals text)
      ≡ Some parameters
  pub in_table : slice_get table.routines index ≡ Some routine
  pub means : Means (bind_typed_parameters parameters (bind_procedure x parameters checked))
      (placement_inside_procedure parameters ((x, local_procedure_target index) ∷ placement)) routine

-- States that the variables of a block have `cells` cells, which follow the `p.cells` cells that
-- already have a place (LANGUAGE.md, Runs 1 and 6). `size_of` returns the number of cells of each
-- variable. `Inside` says what must hold for the block's procedures and statements, given the
-- environment and the placement with the block's declarations.
pub record BlockIsPlaced {N : Type 0} (table : RoutineTable N) (at : ℕ → Slot)
    (checked : TypeEnvironment N) (p : PlacementState N) (k cells : ℕ) (b : Tree N block)
    (Inside : TypeEnvironment N → Placement N → Type 0) : Type 0 where
  pub first : TypeEnvironment N
  pub inner : TypeEnvironment N
  pub size_of : N → ℕ
  pub first_declared : declare_constants_and_types table.naming checked k b ≡ Some first
  pub variables_declared : declare_typed_variables table.naming (constructor_count_before_variables k b) (block_variables b) first
      ≡ Some inner
  pub are_sized : ReturnsSizesOfVariables size_of inner
  pub cells_counted : p.cells + cells ≡ (place_declarations at size_of b p).cells
  pub inside : Inside inner (place_declarations at size_of b p).placement

-- States that code is correct for a block, for its procedures, and for the procedures inside them.
-- `cells` is the number of cells of the variables that the block declares outside its procedures.
abbrev mutual
  -- States that the cells of a block's variables follow the `p.cells` cells that already have a
  -- place (LANGUAGE.md, Runs 1 and 6). Also states that the table has correct code for the block's
  -- procedures, and that `code` is correct code for the block's statements.
  pub CodeMeansBlock : {N : Type 0}
      → RoutineTable N
      → (ℕ → Slot)
      → TypeEnvironment N
      → PlacementState N
      → ℕ
      → ℕ
      → lowered.InstructionList
      → Tree N block
      → Type 0
  CodeMeansBlock {N} table at checked p k cells code (forms_block (declares cs ts vs ps) statements) =
      BlockIsPlaced table at checked p k cells (forms_block (declares cs ts vs ps) statements)
      (λ inner placement. RoutinesMeanProcedures table inner placement
      (constructor_count_before_procedures k (forms_block (declares cs ts vs ps) statements)) code statements ps)

  -- States that the table has correct code for each of these procedures (LANGUAGE.md, Runs 6). Also
  -- states that `code` is correct code for the statements of the block in which they are declared.
  pub RoutinesMeanProcedures : {N : Type 0}
      → RoutineTable N
      → TypeEnvironment N
      → Placement N
      → ℕ
      → lowered.InstructionList
      → Tree N (maybe body)
      → Tree N (items procedure)
      → Type 0
  RoutinesMeanProcedures table checked placement k code statements end =
      CodeMeansBody table.naming checked placement code statements
  RoutinesMeanProcedures {N} table checked placement k code statements (more p rest) =
      (index : ℕ)
      × (here : RoutineAtIndexMeansProcedure table checked placement (procedure_name p) k p index
      (λ checked placed routine. RoutineMeansProcedure table checked placed k routine p))
      × RoutinesMeanProcedures table (bind_procedure (procedure_name p) here.parameters checked)
      ((procedure_name p, local_procedure_target index) ∷ placement) (k + procedure_constructor_count p) code
      statements rest

  -- states that a routine is correct code for the block of a procedure (LANGUAGE.md, Runs 6)
  pub RoutineMeansProcedure : {N : Type 0}
      → RoutineTable N
      → TypeEnvironment N
      → PlacementState N
      → ℕ
      → lowered.Routine
      → Tree N (item procedure)
      → Type 0
  RoutineMeansProcedure table checked p k routine (declares_procedure x fs b closing) =
      CodeMeansBlock table (in_activation 0) checked p (k + formals_constructor_count (formal_parameter_sections fs))
      routine.cells routine.body b

-- States that one binding has the right place, as seen from the activations `ls`. A variable's
-- place must have values of its type, and its slot must have the address of that place
-- (LANGUAGE.md, Runs 1). A procedure's routine must be correct code for the procedure's block (Runs
-- 6). This must hold in the environment, and in a placement at the procedure's declaration for
-- which `Fits` holds. Other bindings have no place.
abbrev pub BindingIsPlaced : {N : Type 0}
    → RoutineTable N
    → StoreTyping
    → Levels
    → TypeEnvironment N
    → (Levels → Placement N → Type 0)
    → N
    → Object Shape Signature
    → BindingPlace
    → Object Place (ProcedureText N)
    → Type 0
BindingIsPlaced table typing ls checked Fits x (a_variable s) (in_slot slot) (a_variable p) =
    PlaceHasType typing p s × (slot_address ls slot ≡ address_of_place typing p)
BindingIsPlaced {N} table typing ls checked Fits x (a_procedure signature) (at_target t)
    (a_procedure code)
    =
    (outer : Placement N)
    × Fits (drop t.up ls) outer
    × RoutineAtIndexMeansProcedure table checked outer x code.constructors_before code.text t.procedure
    (λ checked placed routine. RoutineMeansProcedure table checked placed code.constructors_before routine
    code.text)
BindingIsPlaced table typing ls checked Fits x (a_type s) nowhere (a_type u) = Unit {0}
BindingIsPlaced table typing ls checked Fits x (a_constant v) nowhere (a_constant w) = Unit {0}
BindingIsPlaced table typing ls checked Fits x (a_standard_procedure p) nowhere (a_standard_procedure q) = Unit {0}
BindingIsPlaced table typing ls checked Fits x _ _ _ = ⊥

-- States that the first bindings of an environment, a placement and an activation have the same
-- name. Also states `Here`, which is about these bindings, and `Further`, which is about the
-- bindings after them.
pub record FirstBindingsAgree {N : Type 0} (checked placed active : N) (Here Further : Type 0)
    : Type 0 where
  pub activation_name_agrees : checked ≡ active
  pub placement_name_agrees : checked ≡ placed
  pub here : Here
  pub further : Further

-- States that each binding of an activation has the right place, as seen from the activations `ls`
-- (`BindingIsPlaced`; LANGUAGE.md, Runs 1 and 6). The environment, the placement and the activation
-- have to bind the same names.
abbrev pub PlacementMatchesActivation : {N : Type 0}
    → RoutineTable N
    → StoreTyping
    → Levels
    → TypeEnvironment N
    → Placement N
    → RunEnvironment N
    → Type 0
PlacementMatchesActivation table typing ls [] [] [] = Unit {0}
PlacementMatchesActivation table typing ls (b ∷ checked) (w ∷ placement) (d ∷ active) =
    FirstBindingsAgree b.0 w.0 d.0
    (BindingIsPlaced table typing ls checked
    (λ ls placement. PlacementMatchesActivation table typing ls checked placement active) b.0 b.1 w.1 d.1)
    (PlacementMatchesActivation table typing ls checked placement active)
PlacementMatchesActivation table typing ls _ _ _ = ⊥

-- returns the placement of the predeclared names, each with the place `nowhere`
abbrev pub outermost_placement : {N : Type 0} → Naming N → Placement N
outermost_placement naming =
    (naming.predeclared 6, nowhere)
    ∷ (naming.predeclared 5, nowhere)
    ∷ (naming.predeclared 4, nowhere)
    ∷ (naming.predeclared 3, nowhere)
    ∷ (naming.predeclared 2, nowhere)
    ∷ (naming.predeclared 1, nowhere)
    ∷ (naming.predeclared 0, nowhere)
    ∷ []

-- States that a program is correct code for a module: its body for the module's body, and its
-- procedures for the module's procedures.
abbrev pub ProgramMeansModule : {N : Type 0}
    → Naming N
    → Tree N module_text
    → lowered.LoweredCode
    → Type 0
ProgramMeansModule naming m program =
    CodeMeansBlock record { routines = program.procedures; naming = naming } in_module_activation
    (outermost_environment naming) record
    { placement = outermost_placement naming; cells = 0; var_parameters_so_far = 0 } 0 program.cells
    program.body (module_block m)
