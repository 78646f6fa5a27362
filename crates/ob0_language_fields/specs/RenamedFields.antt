-- Defines the module in which fields are renamed. A field is renamed at its declaration in a record
-- and in each selector that selects this field.
-- Rule: docs/LANGUAGE.md, Scopes 7.
use Rattle.std.specs.Prelude.{ℕ, Some, None, Option}
use Rattle.ob0_tree.specs.Tree.{Sort, Tree, block, item, items, mapped_tree, module_text, procedure}
use Rattle.ob0_language_names.specs.Names.{Name}
use Rattle.ob0_language_types.specs.WellTyped.{TypeEnvironment, TypeMeanings}
use Rattle.ob0_language_values.specs.Values.{Shape, array_shape, boolean_shape, integer_shape, record_shape}
use Rattle.ob0_language_fields.specs.MarkedFields.{NameUse, UsedName, declares_field, mark_block, mark_declared_fields, mark_procedure, mark_procedures, mark_selected_fields, marked_module, marking_by_environment, no_field, selects_field}

-- A function that returns the new name of a field. The first argument is the ordinal of the field's
-- record, or None if the record is unknown. A record's ordinal is the number of words ARRAY and
-- RECORD before its own word RECORD. The second argument is the field's old name.
abbrev pub FieldRenaming : Type 0
FieldRenaming = Option ℕ → Name → Name

-- returns the ordinal of a record type: the number of words ARRAY and RECORD before its RECORD;
-- None for any other type and for None (an unknown type)
abbrev pub record_ordinal : Option Shape → Option ℕ
record_ordinal None = None
record_ordinal (Some integer_shape) = None
record_ordinal (Some boolean_shape) = None
record_ordinal (Some (array_shape k n s)) = None
record_ordinal (Some (record_shape k fs)) = Some k

-- returns the new name of a used name: a field's new name is given by `l`, and any other name is kept
abbrev pub rename_used_name : FieldRenaming → UsedName Name → Name
rename_used_name l (x, no_field) = x
rename_used_name l (x, declares_field k) = l (Some k) x
rename_used_name l (x, selects_field s) = l (record_ordinal s) x

-- returns a marked tree with its fields renamed by `l`, and without marks
abbrev pub rename_marked_fields : {s : Sort} → FieldRenaming → Tree (UsedName Name) s → Tree Name s
rename_marked_fields l t = mapped_tree (rename_used_name l) (λ n. n) t

-- Returns a statement or a part of one with the selected fields renamed by `l`. If the part is a
-- selector or a list of selectors, `o` is the type of the designator before it.
abbrev pub rename_selected_fields : {s : Sort} → FieldRenaming → TypeMeanings Name → Option Shape → Tree Name s → Tree Name s
rename_selected_fields l m o t = rename_marked_fields l (mark_selected_fields m o t)

-- Returns a written type or declarations with the declared fields renamed by `l`. Array and record
-- types are numbered from `k`. `u` is the use of the names of a group of fields.
abbrev pub rename_declared_fields : {s : Sort} → FieldRenaming → NameUse → ℕ → Tree Name s → Tree Name s
rename_declared_fields l u k t = rename_marked_fields l (mark_declared_fields u k t)

-- Returns a block with its fields renamed by `l`. `env` is the environment around the block. Array
-- and record types are numbered from `k`.
abbrev pub rename_fields_in_block : FieldRenaming → TypeEnvironment Name → ℕ → Tree Name block → Tree Name block
rename_fields_in_block l env k b = rename_marked_fields l (mark_block marking_by_environment env k b)

-- Returns procedures with the fields in them renamed by `l`. `env` is the environment before the
-- first procedure. Array and record types are numbered from `k`.
abbrev pub rename_fields_in_procedure_list : FieldRenaming
    → TypeEnvironment Name
    → ℕ
    → Tree Name (items procedure)
    → Tree Name (items procedure)
rename_fields_in_procedure_list l env k ps = rename_marked_fields l (mark_procedures marking_by_environment env k ps)

-- Returns a procedure with the fields in it renamed by `l`. `env` is the environment around the
-- procedure's block; it already binds the procedure's name and parameters. Array and record types
-- are numbered from `k`.
abbrev pub rename_fields_in_procedure : FieldRenaming
    → TypeEnvironment Name
    → ℕ
    → Tree Name (item procedure)
    → Tree Name (item procedure)
rename_fields_in_procedure l env k p = rename_marked_fields l (mark_procedure marking_by_environment env k p)

-- returns a module with the fields of its records renamed by the function `l`
abbrev pub rename_fields_in_module : FieldRenaming → Tree Name module_text → Tree Name module_text
rename_fields_in_module l m = rename_marked_fields l (marked_module m)
