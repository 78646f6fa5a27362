-- Defines the faults of duplicate declarations (including fields) and wrong closing names, in the
-- order in which they are reported. The trees have token indexes in place of names. The argument
-- `spelling` returns the spelling of the token with a given index.
-- Rule: docs/LANGUAGE.md, Faults of scopes and types, `Duplicate`, `EndName`.
use Rattle.std.specs.Prelude.{ℕ, Bool, not, List, [], ◌∷◌, ◌++◌, if◌then◌else◌}
use Rattle.ob0_scan.specs.declared.fault.FaultCode.TheVariants as code
use Rattle.ob0_tree.specs.ParsedModule.{ParsedModule, tree_of}
use Rattle.ob0_tree.specs.TokenIndexLeaves.{token_text_at}
use Rattle.ob0_tree.specs.Tree.{Tree, array_type, block, declares, declares_procedure, declares_type, declares_variable, end, fields, fields_after_semicolon, section_after_semicolon, forms_block, forms_module, item, items, module_text, more, named_type, no_fields, procedure, record_type, some_fields, semicolon_then_fields, semicolon_then_section, type_definition, variable, written_type}
use Rattle.ob0_language_names.specs.ConsistentNames.{names_declared_in_block, group_field_names, field_names_after_first_group, is_among}
use Rattle.ob0_language_names.specs.Names.{Name, same_name}
use Rattle.ob0_language_names.specs.BlockParts.{formal_parameter_names, formal_parameter_sections, parameter_section_type, section_types, section_variables}
use Rattle.ob0_scope_table.specs.FaultsAtTokens.{fault_at_token}
use Rattle.ob0_scope_table.specs.declared.faults.FaultAtTokens.{FaultAtTokens}

-- returns a list with only this fault if the condition `holds` is false, otherwise an empty list
abbrev pub fault_unless : Bool → FaultAtTokens → List FaultAtTokens
fault_unless holds fault = if holds then [] else fault ∷ []

-- Returns a fault `Duplicate` for each token in the list whose name is a duplicate. A name is a
-- duplicate if an earlier token in the list has it, or if it is among the names `before`.
abbrev pub duplicate_faults : (ℕ → Name) → List Name → List ℕ → List FaultAtTokens
duplicate_faults spelling before [] = []
duplicate_faults spelling before (x ∷ xs) =
    fault_unless (not (is_among (spelling x) before)) (fault_at_token code.Duplicate x)
    ++ duplicate_faults spelling (spelling x ∷ before) xs

-- Returns a list with only the fault `EndName` if a closing name is wrong, otherwise an empty list.
-- The closing name of a module or procedure (at the token `closing`) is wrong if it differs from
-- the name (at the token `x`).
abbrev pub closing_name_faults : (ℕ → Name) → ℕ → ℕ → List FaultAtTokens
closing_name_faults spelling x closing =
    fault_unless (same_name (spelling x) (spelling closing)) (fault_at_token code.EndName closing)

-- Returns the faults of duplicate fields in a written type. The faults of an outer record come
-- before the faults of the records inside it.
abbrev mutual
  -- Returns the faults of duplicate fields in a written type. The faults of an outer record come
  -- first, then the faults of the records inside it.
  pub duplicate_field_faults : (ℕ → Name) → Tree ℕ written_type → List FaultAtTokens
  duplicate_field_faults spelling (named_type x) = []
  duplicate_field_faults spelling (array_type e t) = duplicate_field_faults spelling t
  duplicate_field_faults spelling (record_type g rest) =
      duplicate_faults spelling [] (group_field_names g ++ field_names_after_first_group rest)
      ++ (duplicate_field_faults_in_group spelling g ++ duplicate_field_faults_in_further_groups spelling rest)

  -- returns the faults of duplicate fields in the type of a group of fields
  pub duplicate_field_faults_in_group : (ℕ → Name) → Tree ℕ fields → List FaultAtTokens
  duplicate_field_faults_in_group spelling no_fields = []
  duplicate_field_faults_in_group spelling (some_fields ns t) = duplicate_field_faults spelling t

  -- returns the faults of duplicate fields in the types of further groups of fields
  pub duplicate_field_faults_in_further_groups : (ℕ → Name) → Tree ℕ (items fields_after_semicolon) → List FaultAtTokens
  duplicate_field_faults_in_further_groups spelling end = []
  duplicate_field_faults_in_further_groups spelling (more (semicolon_then_fields g) rest) = duplicate_field_faults_in_group spelling g ++ duplicate_field_faults_in_further_groups spelling rest

-- returns the faults of duplicate fields in the types of a TYPE section
abbrev pub duplicate_field_faults_in_types : (ℕ → Name) → Tree ℕ (items type_definition) → List FaultAtTokens
duplicate_field_faults_in_types spelling end = []
duplicate_field_faults_in_types spelling (more (declares_type x t) ds) = duplicate_field_faults spelling t ++ duplicate_field_faults_in_types spelling ds

-- returns the faults of duplicate fields in the types of variables
abbrev pub duplicate_field_faults_in_variables : (ℕ → Name) → Tree ℕ (items variable) → List FaultAtTokens
duplicate_field_faults_in_variables spelling end = []
duplicate_field_faults_in_variables spelling (more (declares_variable ns t) gs) =
    duplicate_field_faults spelling t ++ duplicate_field_faults_in_variables spelling gs

-- returns the faults of duplicate fields in the types of parameters
abbrev pub duplicate_field_faults_in_formals : (ℕ → Name) → Tree ℕ (items section_after_semicolon) → List FaultAtTokens
duplicate_field_faults_in_formals spelling end = []
duplicate_field_faults_in_formals spelling (more (semicolon_then_section s) fs) =
    duplicate_field_faults spelling (parameter_section_type s) ++ duplicate_field_faults_in_formals spelling fs

-- Returns the faults of duplicate declarations and wrong closing names in a block, in procedures,
-- or in one procedure.
abbrev mutual
  -- Returns the faults of a block. The faults for duplicate names in the block come first, then the
  -- faults for duplicate fields in its TYPE and VAR sections. The faults of its procedures come
  -- last. In a procedure's block, `own` has the tokens of the names of the procedure's parameters,
  -- which count as declared in the block. In a module's block, `own` is empty.
  pub block_declaration_faults : (ℕ → Name) → List ℕ → Tree ℕ block → List FaultAtTokens
  block_declaration_faults spelling own (forms_block (declares cs ts vs ps) statements) =
      duplicate_faults spelling [] (own ++ names_declared_in_block (forms_block (declares cs ts vs ps) statements))
      ++ (duplicate_field_faults_in_types spelling (section_types ts)
      ++ (duplicate_field_faults_in_variables spelling (section_variables vs) ++ procedure_list_declaration_faults spelling ps))

  -- returns the faults of all procedures of a block, in text order
  pub procedure_list_declaration_faults : (ℕ → Name) → Tree ℕ (items procedure) → List FaultAtTokens
  procedure_list_declaration_faults spelling end = []
  procedure_list_declaration_faults spelling (more p rest) = procedure_declaration_faults spelling p ++ procedure_list_declaration_faults spelling rest

  -- returns the faults of a procedure: first for its closing name, then for duplicate fields in its
  -- parameters' types, then the faults of its block
  pub procedure_declaration_faults : (ℕ → Name) → Tree ℕ (item procedure) → List FaultAtTokens
  procedure_declaration_faults spelling (declares_procedure x fs b closing) =
      closing_name_faults spelling x closing
      ++ (duplicate_field_faults_in_formals spelling (formal_parameter_sections fs)
      ++ block_declaration_faults spelling (formal_parameter_names (formal_parameter_sections fs)) b)

-- returns the faults of all duplicate declarations (including fields) and wrong closing names in a
-- module's tree
abbrev pub tree_declaration_faults : (ℕ → Name) → Tree ℕ module_text → List FaultAtTokens
tree_declaration_faults spelling (forms_module x b closing) =
    closing_name_faults spelling x closing ++ block_declaration_faults spelling [] b

-- returns the faults of all duplicate declarations (including fields) and wrong closing names in a
-- module
abbrev pub declaration_faults : ParsedModule → List FaultAtTokens
declaration_faults m = tree_declaration_faults (token_text_at m.source) (tree_of m)
