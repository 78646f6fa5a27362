use Rattle.std.proofs.Common.{◌≡◌, ◌&&◌, ◌-◌, ℕ, Bool, List, Option, not, length, option_and_then, slice_get}
use Rattle.std.specs.List.{list_any, range_with_len}
use Rattle.ob0_tree.specs.ParsedModule.{named_tree_of}
use Rattle.ob0_language_names.specs.Occurrences.{ordinal_bound_at_occurrence}
use Rattle.ob0_scope_table.specs.Resolution.{Resolution}
use Rattle.ob0_language_names.specs.Scopes.{same_ordinal}
use Rattle.ob0_inline.proofs.shadowed_truth_names.has_use_with_shadowed_name.Given as goal

-- true if an occurrence is bound to the constant, and the list binds the name to another
-- declaration there
abbrev pub elsewhere : Resolution → List (Option ℕ) → ℕ → ℕ → ℕ → Bool
elsewhere r bound constant ordinal k = same_ordinal (ordinal_bound_at_occurrence (named_tree_of r.module_read) k) constant && not (same_ordinal (option_and_then (λ found. found) (slice_get bound k)) ordinal)

abbrev pub invariant-loop-occurrence : goal.invariant-loop-occurrence
invariant-loop-occurrence l =
    list_any (elsewhere l.names l.bound l.constant l.ordinal) (range_with_len l.occurrence (length l.names.uses - l.occurrence))
    ≡ list_any (elsewhere l.names l.bound l.constant l.ordinal) (range_with_len 0 (length l.names.uses))
