-- Laws about renaming. A renaming to a free name keeps the names of a module consistent. A new name
-- has a conflict exactly if it isn't free.
-- Rule: none; states laws about renaming.
use Rattle.std.specs.Prelude.{IsTrue, None, ℕ, ◌↔◌, ◌≡◌}
use Rattle.ob0_tree.specs.Tree.{Tree, module_text}
use Rattle.ob0_language_names.specs.Names.{Name}
use Rattle.ob0_language_names.specs.Occurrences.{IsFreeName, first_name_conflict}
use Rattle.ob0_language_names.specs.Scopes.{renamed}
use Rattle.ob0_language_names.specs.ConsistentNames.{has_consistent_names}

-- States that a module with consistent names still has consistent names after a declaration is
-- renamed to a free name. Names are consistent if no block or record declares a name twice, and the
-- closing names are right.
abbrev pub RenamingToFreeNameKeepsConsistentNames : Type 0
RenamingToFreeNameKeepsConsistentNames =
    (m : Tree Name module_text) (d : ℕ) (new : Name)
    → IsFreeName m d new
    → IsTrue (has_consistent_names m)
    → IsTrue (has_consistent_names (renamed m d new))

-- States that a new name for a declaration has no conflict (`first_name_conflict` returns None) exactly if the new name
-- is free.
abbrev pub NameIsFreeIffNoConflict : Type 0
NameIsFreeIffNoConflict =
    (m : Tree Name module_text) (d : ℕ) (new : Name) → first_name_conflict m d new ≡ None ↔ IsFreeName m d new
