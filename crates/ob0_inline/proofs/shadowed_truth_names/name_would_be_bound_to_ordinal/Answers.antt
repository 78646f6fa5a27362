use Rattle.std.proofs.Common.{List, Option, ℕ, option_and_then, slice_get, ap, ◌∙◌}
use Rattle.ob0_tree.specs.ParsedModule.{named_tree_of}
use Rattle.ob0_language_names.specs.Scopes.{same_ordinal}
use Rattle.ob0_scope.proofs.SeenInPlaces.{sees_entry}
use Rattle.ob0_inline.proofs.shadowed_truth_names.name_would_be_bound_to_ordinal.Goals as goal

pub returns : goal.returns
returns c =
    let m = named_tree_of c.args.names.now.module_read in
    c.is_bound_to_ordinal.ensures
    ∙ (ap (λ (xs : List (Option ℕ)). same_ordinal (option_and_then (λ o. o) (slice_get xs c.args.occurrence)) c.args.ordinal) (c.deref.ensures.value ∙ c.in_ok-bound.ensures)
    ∙ ap (λ o. same_ordinal o c.args.ordinal) (sees_entry m c.args.name.now c.args.occurrence))
