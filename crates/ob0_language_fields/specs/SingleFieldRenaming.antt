-- Defines the renaming of one field of a record, and the names that are free for the field. A
-- record is given by its ordinal: the number of words ARRAY and RECORD before its own word RECORD.
-- Rule: docs/PROTOCOL.md, Requests on documents 6.
use Rattle.std.specs.Prelude.{◌≡◌, ℕ, Bool, false, not, ◌&&◌, List, [], ◌∷◌, if◌then◌else◌, ◌==◌}
use Rattle.std.specs.List.{list_any}
use Rattle.ob0_tree.specs.declared.tree.Role.{Role}
use Rattle.ob0_tree.specs.Tree.{Tree, module_text}
use Rattle.ob0_language_names.specs.Names.{Name, same_name}
use Rattle.ob0_language_names.specs.Scopes.{same_ordinal}
use Rattle.ob0_language_fields.specs.MarkedFields.{UsedName, declares_field, mark_module, marking_declarations, no_field, selects_field, used_names}
use Rattle.ob0_language_fields.specs.RenamedFields.{FieldRenaming, rename_fields_in_module}

-- returns the renaming that gives the name `new` to the field `f` of the record with ordinal `r` and changes no other
-- field; a record's ordinal is the number of words ARRAY and RECORD before the record
abbrev pub single_field_renaming : ℕ → Name → Name → FieldRenaming
single_field_renaming r f new owner x = if same_ordinal owner r && same_name x f then new else x

-- Returns the module in which the field `f` of the record with ordinal `r` is renamed to `new`. The field is renamed at
-- its declaration and in each selector that selects the field. A record's ordinal is the number of words ARRAY and
-- RECORD before the record in the text.
abbrev pub module_with_renamed_field : Tree Name module_text → ℕ → Name → Name → Tree Name module_text
module_with_renamed_field m r f new = rename_fields_in_module (single_field_renaming r f new) m

-- returns the names in a list that declare a field of the record with ordinal `r`
abbrev pub names_declared_in_record : {N : Type 0} → ℕ → List (Role × UsedName N) → List N
names_declared_in_record r [] = []
names_declared_in_record r ((_, (x, no_field)) ∷ xs) = names_declared_in_record r xs
names_declared_in_record r ((_, (x, declares_field k)) ∷ xs) =
    if k == r then x ∷ names_declared_in_record r xs else names_declared_in_record r xs
names_declared_in_record r ((_, (x, selects_field s)) ∷ xs) = names_declared_in_record r xs

-- returns the names of the fields that the record with ordinal `r` declares, in text order
abbrev pub declared_field_names : Tree Name module_text → ℕ → List Name
declared_field_names m r = names_declared_in_record r (used_names (mark_module marking_declarations tt m))

-- returns whether the list `xs` of the names of a record's fields has the name `new`, and `new`
-- isn't `f` itself
abbrev pub has_another_field_named : List Name → Name → Name → Bool
has_another_field_named xs f new = list_any (λ x. same_name x new && not (same_name x f)) xs

-- returns whether a field other than `f` in the record with ordinal `r` has the name `new`; a record's ordinal is the
-- number of words ARRAY and RECORD before the record
abbrev pub is_duplicate_field_name : Tree Name module_text → ℕ → Name → Name → Bool
is_duplicate_field_name m r f new = has_another_field_named (declared_field_names m r) f new

-- States that the name `new` is free for the field `f` of the record with ordinal `r`. A name is
-- free if no other field of this record has it.
abbrev pub IsFreeFieldName : Tree Name module_text → ℕ → Name → Name → Type 0
IsFreeFieldName m r f new = is_duplicate_field_name m r f new ≡ false
