-- Defines modules with consistent names: no name is declared twice in a block or record, and each
-- closing name equals the name of its module or procedure.
-- Rule: docs/LANGUAGE.md, Scopes 5 to 7.
use Rattle.std.specs.Prelude.{Bool, true, false, not, ◌&&◌, ◌||◌, List, [], ◌∷◌, ◌++◌}
use Rattle.ob0_tree.specs.Tree.{Tree, array_type, block, declares, declares_procedure, declares_type, declares_variable, end, fields, fields_after_semicolon, section_after_semicolon, forms_block, forms_module, item, items, module_text, more, named_type, no_fields, procedure, record_type, some_fields, semicolon_then_fields, semicolon_then_section, type_definition, variable, written_type}
use Rattle.ob0_language_names.specs.Names.{Name, same_name}
use Rattle.ob0_language_names.specs.BlockParts.{block_constants, block_procedures, block_types, block_variables, constant_names, formal_parameter_names, formal_parameter_sections, declared_type_names, names_in_list, procedure_name, parameter_section_type, section_types, section_variables, variable_names}

-- returns whether a name is in a list
abbrev pub is_among : Name → List Name → Bool
is_among x [] = false
is_among x (y ∷ ys) = same_name x y || is_among x ys

-- returns true if all names in a list are different
abbrev pub are_distinct : List Name → Bool
are_distinct [] = true
are_distinct (x ∷ xs) = not (is_among x xs) && are_distinct xs

-- returns the names of the fields in a group, such as `x` and `y` in `x, y: T`
abbrev pub group_field_names : {N : Type 0} → Tree N fields → List N
group_field_names no_fields = []
group_field_names (some_fields ns t) = names_in_list ns

-- returns the names of the fields in the groups of a record after its first group
abbrev pub field_names_after_first_group : {N : Type 0} → Tree N (items fields_after_semicolon) → List N
field_names_after_first_group end = []
field_names_after_first_group (more (semicolon_then_fields g) rest) = group_field_names g ++ field_names_after_first_group rest

-- Returns true if each record in a written type has distinct field names.
abbrev mutual
  -- returns true if each record in a written type has distinct field names; records that a type's
  -- name denotes aren't checked here
  pub has_distinct_fields : Tree Name written_type → Bool
  has_distinct_fields (named_type x) = true
  has_distinct_fields (array_type e t) = has_distinct_fields t
  has_distinct_fields (record_type g rest) =
      are_distinct (group_field_names g ++ field_names_after_first_group rest) && (group_has_distinct_fields g && later_groups_have_distinct_fields rest)

  -- returns true if each record in the type of a group of fields has distinct field names
  pub group_has_distinct_fields : Tree Name fields → Bool
  group_has_distinct_fields no_fields = true
  group_has_distinct_fields (some_fields ns t) = has_distinct_fields t

  -- returns true if each record in the types of the groups after the first group has distinct field
  -- names
  pub later_groups_have_distinct_fields : Tree Name (items fields_after_semicolon) → Bool
  later_groups_have_distinct_fields end = true
  later_groups_have_distinct_fields (more (semicolon_then_fields g) rest) = group_has_distinct_fields g && later_groups_have_distinct_fields rest

-- returns the names of a block's procedures
abbrev pub procedure_names : {N : Type 0} → Tree N (items procedure) → List N
procedure_names end = []
procedure_names (more p rest) = procedure_name p ∷ procedure_names rest

-- returns the names that a block declares: its constants, types, variables and procedures
abbrev pub names_declared_in_block : {N : Type 0} → Tree N block → List N
names_declared_in_block b =
    constant_names (block_constants b)
    ++ (declared_type_names (block_types b)
    ++ (variable_names (block_variables b) ++ procedure_names (block_procedures b)))

-- returns true if each record in the types of a TYPE section has distinct field names
abbrev pub types_have_distinct_fields : Tree Name (items type_definition) → Bool
types_have_distinct_fields end = true
types_have_distinct_fields (more (declares_type x t) ds) = has_distinct_fields t && types_have_distinct_fields ds

-- returns true if each record in the types of variables has distinct field names
abbrev pub variables_have_distinct_fields : Tree Name (items variable) → Bool
variables_have_distinct_fields end = true
variables_have_distinct_fields (more (declares_variable ns t) gs) = has_distinct_fields t && variables_have_distinct_fields gs

-- returns true if each record in the types of parameters has distinct field names
abbrev pub formals_have_distinct_fields : Tree Name (items section_after_semicolon) → Bool
formals_have_distinct_fields end = true
formals_have_distinct_fields (more (semicolon_then_section s) fs) = has_distinct_fields (parameter_section_type s) && formals_have_distinct_fields fs

-- Returns true if each block declares distinct names, each record has distinct field names, and
-- each procedure's closing name equals the procedure's name. A procedure's parameters and locals
-- count as one block.
abbrev mutual
  -- Returns true if three things hold: the block and each block inside it declare distinct names,
  -- each record has distinct field names, and each procedure has the right closing name. If this is
  -- a procedure's block, `own` has the names of the parameters, which count as names of the block.
  pub block_has_consistent_names : List Name → Tree Name block → Bool
  block_has_consistent_names own (forms_block (declares cs ts vs ps) statements) =
      are_distinct (own ++ names_declared_in_block (forms_block (declares cs ts vs ps) statements))
      && (types_have_distinct_fields (section_types ts)
      && (variables_have_distinct_fields (section_variables vs) && procedure_list_has_consistent_names ps))

  -- returns true if each procedure of the list has consistent names
  -- (`procedure_has_consistent_names`)
  pub procedure_list_has_consistent_names : Tree Name (items procedure) → Bool
  procedure_list_has_consistent_names end = true
  procedure_list_has_consistent_names (more p rest) = procedure_has_consistent_names p && procedure_list_has_consistent_names rest

  -- returns true if a procedure has the right closing name and declares no name twice in a block or
  -- record
  pub procedure_has_consistent_names : Tree Name (item procedure) → Bool
  procedure_has_consistent_names (declares_procedure x fs b closing) =
      same_name x closing
      && (formals_have_distinct_fields (formal_parameter_sections fs) && block_has_consistent_names (formal_parameter_names (formal_parameter_sections fs)) b)

-- returns true if a module declares no name twice in a block or record, and each closing name
-- equals the name of its module or procedure
abbrev pub has_consistent_names : Tree Name module_text → Bool
has_consistent_names (forms_module x b closing) = same_name x closing && block_has_consistent_names [] b
