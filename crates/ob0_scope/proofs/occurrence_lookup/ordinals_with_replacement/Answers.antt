use Rattle.std.proofs.Common.{Some, refl, ap, ◌∙◌}
use Rattle.ob0_tree.specs.ParsedModule.{tree_of}
use Rattle.ob0_scope_numbering.specs.IdentifierWalk.{visit_module}
use Rattle.ob0_scope_numbering.specs.MarkWalk as listing
use Rattle.ob0_scope_numbering.specs.TableWalk.{WalkState, number_module}
use Rattle.ob0_scope_numbering.specs.IdentifierSpellings.{Spellings}
use Rattle.ob0_scope.proofs.SeenInPlaces.{seen_in_places}
use Rattle.ob0_scope.proofs.occurrence_lookup.ordinals_with_replacement.Goals as goal

pub returns : goal.returns
returns c =
    let r = c.args.names.now in
    let m = r.module_read in
    let parts = c.into_tokens_and_ordinals-declarations in
    let sought = c.in_ok-sought.sought.items in
    let written : Spellings = record { source = m.source; ordinals = sought; declaration = Some 0; new = c.args.name.now } in
    let gone = c.in_ok-numbering.ensures
    ∙ (λ i. number_module (tree_of (c.module.ensures.value i)) (record { source = c.tokens.ensures i; ordinals = c.as_slice.ensures.value i; declaration = Some 0; new = c.args.name.now })) in
    seen_in_places r c.args.name.now (visit_module (tree_of m) (listing.initial_walk_state written)) sought parts.result.2.items c.module.ensures.resolved c.in_ok-sought.ensures refl
    (parts.ensures.table ∙ ap (λ (v : WalkState). v.marks) gone)
