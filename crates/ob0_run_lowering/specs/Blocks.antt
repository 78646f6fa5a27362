-- States that each procedure and each block of a well-typed module is lowered to correct code. Code
-- calls procedures by their indices in the table of routines, so code is correct only together with
-- a table. Routines are only added at the end of the table. A clause about code holds for each
-- table that begins with the routines so far (`GrowsTo`). So the code is also correct for the final
-- table, which no clause mentions. `LowersProcedures` is about some procedures of a block. It holds
-- for any procedures and statements that follow in the block. The loop over a block's procedures
-- composes such facts (`goes_then`).
-- Rule: none; used in contracts of lowering.
use Rattle.std.specs.Prelude.{◌≡◌, ℕ, suc, true, List, length, map}
use Rattle.ob0_tree.specs.Tree.{Tree, block, body, declares, declares_procedure, end, forms_block, items, maybe, more, procedure}
use Rattle.ob0_language_names.specs.Names.{Label, naming_by_label}
use Rattle.ob0_types_table.specs.DeclarationTables.{DeclarationTableView, declared_object_in}
use Rattle.ob0_language_types.specs.WellTyped.{TypeEnvironment, block_is_well_typed, procedures_and_body_are_well_typed}
use Rattle.ob0_run_machine.specs.LoweredSyntax as lowered
use Rattle.ob0_run_machine.specs.LoweredCodeViews.{procedure_of, sequence_of}
use Rattle.ob0_run_machine.specs.declared.code.Routine.{Routine}
use Rattle.ob0_run_cells.specs.Activations.{CodeMeansBlock, PlacementState, Placement, RoutineTable, RoutinesMeanProcedures, routine_table_by_label}
use Rattle.ob0_run_lowering.specs.declared.scene.LoweredSite.{LoweredSite}
use Rattle.ob0_run_lowering.specs.DeclaredBindings.{BindingsAreDeclared, BlockBindingsAreDeclared, ProcedureBindingsAreDeclared}
use Rattle.ob0_run_lowering.specs.PlacedNames.{FrameMatchesPlacement, GrowsTo, PlacementMatchesEnvironment, SitesEndAtNewestName, SitesMatchPlacement, variable_slot_at_depth}
use Rattle.ob0_run_lowering.specs.declared.programs.Lowering.{Lowering}
use Rattle.ob0_run_lowering.specs.declared.declaration_sites.Frame.{Frame}

-- The number of routines after procedures are lowered, if there are `n` routines before. A
-- procedure's routine follows the routines of the procedures inside it.
abbrev mutual
  -- returns the number of routines after the procedures of a block
  pub count_after_block : ℕ → Tree Label block → ℕ
  count_after_block n (forms_block (declares cs ts vs ps) statements) = count_after_procedures n ps

  -- returns the number of routines after some procedures
  pub count_after_procedures : ℕ → Tree Label (items procedure) → ℕ
  count_after_procedures n end = n
  count_after_procedures n (more (declares_procedure x fs b closing) rest) =
      count_after_procedures (suc (count_after_block n b)) rest

-- returns the table of these routines, as the meaning of code needs it
abbrev pub table_of : List Routine → RoutineTable Label
table_of routines = routine_table_by_label (map procedure_of routines)

-- The state before the remaining procedures of a block are lowered. It has the environment, the
-- places of the names in scope (`placement`), and the ordinal of the next ARRAY or RECORD.
pub record BlockLoweringState : Type 0 where
  pub env : TypeEnvironment Label
  pub placement : Placement Label
  pub next : ℕ

-- States that the remaining procedures `ps` and the statements of a block are well-typed in the
-- state `s`. The table of declarations has the object of each name in scope, and of each name that
-- these procedures declare. The table of sites has the place of each name in scope.
pub record RestOfBlockIsReadyToLower (t : DeclarationTableView) (sites : List LoweredSite) (depth : ℕ) (s : BlockLoweringState)
    (statements : Tree Label (maybe body)) (ps : Tree Label (items procedure)) : Type 0 where
  pub environment_is_declared : BindingsAreDeclared (declared_object_in t) s.env
  pub matches : PlacementMatchesEnvironment s.env s.placement
  pub holds : SitesMatchPlacement sites depth s.placement
  pub ends : SitesEndAtNewestName sites s.placement
  pub fits : procedures_and_body_are_well_typed naming_by_label s.env s.next statements ps ≡ true
  pub procedures_are_declared : ProcedureBindingsAreDeclared (declared_object_in t) s.env s.next ps

-- States that a table has correct code for the remaining procedures `ps` of a block, and that
-- `code` is correct for the block's statements. `s` is the state before these procedures.
abbrev pub CodeMeansRestOfBlock : List Routine
    → BlockLoweringState
    → lowered.InstructionList
    → Tree Label (maybe body)
    → Tree Label (items procedure)
    → Type 0
CodeMeansRestOfBlock routines s code statements ps =
    RoutinesMeanProcedures (table_of routines) s.env s.placement s.next code statements ps

-- States that lowering leads from the state `s` with the remaining procedures `ps` of a block to
-- the state `now` with the remaining procedures `left`. `v` is the data of lowering (`Lowering`)
-- afterwards. `composes_meaning` is about each table that begins with the routines of `v`. If the
-- table and some code are correct for `left` in the state `now`, they are correct for `ps` in the
-- state `s`.
pub record LowersProceduresFromState (t : DeclarationTableView) (v : Lowering) (depth : ℕ) (s : BlockLoweringState)
    (statements : Tree Label (maybe body)) (ps left : Tree Label (items procedure)) : Type 0 where
  pub now : BlockLoweringState
  pub ready : RestOfBlockIsReadyToLower t v.sites.items depth now statements left
  pub composes_meaning : (routines : List Routine) (code : lowered.InstructionList)
      → GrowsTo v.routines.items routines
      → CodeMeansRestOfBlock routines now code statements left
      → CodeMeansRestOfBlock routines s code statements ps

-- States that lowering starts with the remaining procedures `ps` of a block, and reaches the
-- remaining procedures `left`. `w` and `v` are the data of lowering before and after. This holds
-- for each state in which lowering starts, and for any statements of the block
-- (`LowersProceduresFromState`). Also states that both tables only grow, and by how many routines.
pub record LowersProcedures (t : DeclarationTableView) (w v : Lowering) (depth : ℕ) (ps left : Tree Label (items procedure))
    : Type 0 where
  pub lowers_from : (s : BlockLoweringState) (statements : Tree Label (maybe body))
      → RestOfBlockIsReadyToLower t w.sites.items depth s statements ps
      → LowersProceduresFromState t v depth s statements ps left
  pub sites : GrowsTo w.sites.items v.sites.items
  pub routines : GrowsTo w.routines.items v.routines.items
  pub counted : count_after_procedures (length v.routines.items) left ≡ count_after_procedures (length w.routines.items) ps

-- States that the routine `entry` is correct code for a block, with each table that begins with the
-- routines of `v`. This has to hold if the block is well-typed and the names in scope have their
-- places and their objects. `w` and `v` are the data of lowering before and after. Also states that
-- both tables only grow, and by how many routines.
pub record LowersBlock (t : DeclarationTableView) (w v : Lowering) (f : Frame) (b : Tree Label block)
    (entry : Routine) : Type 0 where
  pub means : (env : TypeEnvironment Label) (p : PlacementState Label) (k : ℕ)
      → PlacementMatchesEnvironment env p.placement
      → FrameMatchesPlacement w.sites.items f p
      → block_is_well_typed naming_by_label env k b ≡ true
      → BlockBindingsAreDeclared (declared_object_in t) env k b
      → (routines : List Routine)
      → GrowsTo v.routines.items routines
      → CodeMeansBlock (table_of routines) (variable_slot_at_depth f.depth) env p k entry.cells
      (sequence_of entry.body.items) b
  pub sites : GrowsTo w.sites.items v.sites.items
  pub routines : GrowsTo w.routines.items v.routines.items
  pub counted : length v.routines.items ≡ count_after_block (length w.routines.items) b
