-- Defines the declared names that are visible in one body (the statements of a block). They are
-- declared before the body, in the block of the body and in the blocks around it.
-- Rule: none; used in private contracts about the names of one body (`body_range.rt`).
use Rattle.std.specs.Prelude.{ℕ, zero, suc, List, [], ◌∷◌, ◌++◌}
use Rattle.ob0_tree.specs.Tree.{Tree, block, declares, declares_procedure, end, forms_block, forms_module, item, items, module_text, more, procedure}
use Rattle.ob0_language_names.specs.BlockParts.{constant_names, declared_type_names, formal_parameter_names, formal_parameter_sections, procedure_name, section_constants, section_types, section_variables, variable_names}
use Rattle.ob0_language_names.specs.ConsistentNames.{names_declared_in_block}
use Rattle.ob0_scope_table.specs.BodyReplacement.{PathToBody}

-- Returns the names that are declared before a body, in its block and in the blocks around it, in
-- text order. The list also has names that an inner declaration hides. The body is given by a path.
abbrev mutual
  -- returns the names that are declared before the body in a block, and in the procedures inside it
  -- that contain the body
  pub names_visible_at_path_in_block : {N : Type 0} → PathToBody → Tree N block → List N
  names_visible_at_path_in_block [] b = names_declared_in_block b
  names_visible_at_path_in_block (k ∷ path) (forms_block (declares cs ts vs ps) statements) =
      constant_names (section_constants cs)
      ++ (declared_type_names (section_types ts)
      ++ (variable_names (section_variables vs) ++ names_visible_at_path_in_procedure_list k path ps))

  -- Returns the names of the procedures up to and including procedure `k`, counted from 0. These
  -- are followed by the names that are declared before the body in procedure `k`, and in the
  -- procedures inside it that contain the body.
  pub names_visible_at_path_in_procedure_list : {N : Type 0} → ℕ → PathToBody → Tree N (items procedure) → List N
  names_visible_at_path_in_procedure_list k path end = []
  names_visible_at_path_in_procedure_list zero path (more p ps) = procedure_name p ∷ names_visible_at_path_in_procedure path p
  names_visible_at_path_in_procedure_list (suc k) path (more p ps) =
      procedure_name p ∷ names_visible_at_path_in_procedure_list k path ps

  -- returns the names that are declared before the body in a procedure, and in the procedures
  -- inside it that contain the body; the names of the parameters come first
  pub names_visible_at_path_in_procedure : {N : Type 0} → PathToBody → Tree N (item procedure) → List N
  names_visible_at_path_in_procedure path (declares_procedure x fs b closing) =
      formal_parameter_names (formal_parameter_sections fs) ++ names_visible_at_path_in_block path b

-- returns the names that are declared before a body, in its block and in the blocks around it; the
-- path leads from the module to the body
abbrev pub names_visible_at_path : {N : Type 0} → PathToBody → Tree N module_text → List N
names_visible_at_path path (forms_module x b closing) = names_visible_at_path_in_block path b
