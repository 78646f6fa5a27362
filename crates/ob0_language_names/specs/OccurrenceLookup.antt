-- Finds the declaration to which a name would be bound if the name replaced an occurrence of
-- another name.
-- Rule: docs/PROTOCOL.md, Refusals of edits (Shadowed).
use Rattle.std.specs.Prelude.{List, Option, map, option_and_then, slice_get, ℕ}
use Rattle.ob0_tree.specs.Tree.{Tree, module_text, occurrences}
use Rattle.ob0_language_names.specs.Names.{Name, Naming, predeclared_name, same_name}
use Rattle.ob0_language_names.specs.Occurrences.{label_ordinal}
use Rattle.ob0_language_names.specs.Scopes.{label_from_ordinal, relabel_module}

-- returns the interpretation of names that looks up the name `y` in place of each looked-up name
abbrev pub naming_that_looks_up_one_name : Name → Naming Name
naming_that_looks_up_one_name y = record { same = λ x. same_name y; written = λ x. x; predeclared = predeclared_name }

-- Returns the ordinal of the declaration to which the name `y` would be bound if `y` replaced the
-- name at the occurrence with number `occurrence`. Occurrences of names are numbered from 0 in text
-- order. Returns None if `y` would be unbound or there is no such occurrence.
abbrev pub resolve_name_at_occurrence : Tree Name module_text → ℕ → Name → Option ℕ
resolve_name_at_occurrence m occurrence y =
    option_and_then label_ordinal
    (slice_get (occurrences (relabel_module (naming_that_looks_up_one_name y) (label_from_ordinal (naming_that_looks_up_one_name y)) m)) occurrence)

-- Returns an entry for each occurrence of a name, in text order. The entry is the ordinal of the
-- declaration to which the name `y` would be bound if `y` replaced the occurrence. The entry is
-- None if `y` would be unbound at this occurrence.
abbrev pub resolve_name_at_each_occurrence : Tree Name module_text → Name → List (Option ℕ)
resolve_name_at_each_occurrence m y =
    map label_ordinal (occurrences (relabel_module (naming_that_looks_up_one_name y) (label_from_ordinal (naming_that_looks_up_one_name y)) m))
