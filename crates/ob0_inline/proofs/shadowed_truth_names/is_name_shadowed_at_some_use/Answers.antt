use Rattle.std.proofs.Common.{◌&&◌, not, length, option_and_then, slice_get, ◌∙◌}
use Rattle.std.specs.List.{list_any, range_with_len}
use Rattle.ob0_tree.specs.ParsedModule.{named_tree_of}
use Rattle.ob0_language_names.specs.Occurrences.{ordinal_bound_at_occurrence}
use Rattle.ob0_language_names.specs.Scopes.{same_ordinal}
use Rattle.ob0_scope.proofs.SeenInPlaces.{sees_entry}
use Rattle.ob0_inline.proofs.Ended.{as_many_bindings}
use Rattle.ob0_inline.proofs.shadowed_truth_names.is_name_shadowed_at_some_use.Goals as goal

pub returns : goal.returns
returns c =
    let r = c.args.names.now in
    let m = named_tree_of r.module_read in
    let found = c.deref.ensures.value ∙ c.in_ok-bound.ensures in
    let many = as_many_bindings r c.module-module.ensures.resolved in
    c.has_use_with_shadowed_name.ensures
    ∙ ((λ i. list_any (λ k. same_ordinal (ordinal_bound_at_occurrence m k) c.args.constant && not (same_ordinal (option_and_then (λ o. o) (slice_get (found i) k)) c.args.ordinal)) (range_with_len 0 (length r.uses)))
    ∙ (λ i. list_any (λ k. same_ordinal (ordinal_bound_at_occurrence m k) c.args.constant && not (same_ordinal (sees_entry m c.args.name.now k i) c.args.ordinal)) (range_with_len 0 (many i))))
