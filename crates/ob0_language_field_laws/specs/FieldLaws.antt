-- Laws about renamed fields: a well-typed module remains well-typed and has the same runs if
-- different fields of the same record get different names.
-- Rule: none; states laws about renamed fields.
use Rattle.std.specs.Prelude.{◌≡◌, ℕ, Some}
use Rattle.ob0_tree.specs.Tree.{Tree, module_text}
use Rattle.ob0_language_names.specs.Names.{Name, naming_by_spelling, same_name}
use Rattle.ob0_language_types.specs.WellTyped.{WellTyped, passes_type_check}
use Rattle.ob0_language_runs.specs.EditLaws.{HaveSameRuns}
use Rattle.ob0_language_fields.specs.RenamedFields.{FieldRenaming, rename_fields_in_module}
use Rattle.ob0_language_fields.specs.SingleFieldRenaming.{IsFreeFieldName, module_with_renamed_field}

-- states that a renaming gives two fields of the same record the same new name exactly if their old
-- names are equal
abbrev pub KeepsFieldsDistinct : FieldRenaming → Type 0
KeepsFieldsDistinct l = (k : ℕ) (x y : Name) → same_name (l (Some k) x) (l (Some k) y) ≡ same_name x y

-- States that renaming fields doesn't change whether a module passes the type check, which ignores duplicate names and
-- wrong closing names. Different fields of the same record must get different names.
abbrev pub FieldRenamingKeepsTypeCheck : Type 0
FieldRenamingKeepsTypeCheck =
    (l : FieldRenaming) (m : Tree Name module_text)
    → KeepsFieldsDistinct l
    → passes_type_check naming_by_spelling (rename_fields_in_module l m) ≡ passes_type_check naming_by_spelling m

-- States that a well-typed module remains well-typed and has the same runs if its fields are renamed. Different fields
-- of the same record must get different names.
abbrev pub FieldRenamingKeepsTypingAndRuns : Type 0
FieldRenamingKeepsTypingAndRuns =
    (l : FieldRenaming) (m : Tree Name module_text)
    → KeepsFieldsDistinct l
    → WellTyped m
    → WellTyped (rename_fields_in_module l m) × HaveSameRuns (rename_fields_in_module l m) m

-- States that a well-typed module remains well-typed and has the same runs if a field is renamed to a free name. A free
-- name is a name that no other field of the record has.
abbrev pub RenamingFieldToFreeNameKeepsTypingAndRuns : Type 0
RenamingFieldToFreeNameKeepsTypingAndRuns =
    (m : Tree Name module_text) (r : ℕ) (f new : Name)
    → IsFreeFieldName m r f new
    → WellTyped m
    → WellTyped (module_with_renamed_field m r f new) × HaveSameRuns (module_with_renamed_field m r f new) m
