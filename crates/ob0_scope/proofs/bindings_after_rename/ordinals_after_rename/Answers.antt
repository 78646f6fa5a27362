use Rattle.std.proofs.Common.{Some, refl, ap, ◌∙◌}
use Rattle.ob0_tree.specs.ParsedModule.{tree_of}
use Rattle.ob0_scope_numbering.specs.IdentifierWalk.{visit_module}
use Rattle.ob0_scope_numbering.specs.MarkWalk as listing
use Rattle.ob0_scope.specs.Renames.{spellings_after_rename}
use Rattle.ob0_scope_numbering.specs.TableWalk.{WalkState, number_module}
use Rattle.ob0_scope.proofs.Renumbered.{renumbered}
use Rattle.ob0_scope.proofs.bindings_after_rename.ordinals_after_rename.Goals as goal

pub returns-clause-renumbered : goal.returns-clause-renumbered
returns-clause-renumbered c =
    let r = c.args.names.now in
    let parts = c.into_tokens_and_ordinals-declarations in
    let written = spellings_after_rename r c.args.declaration c.args.new.now in
    let ordinals = c.ordinals.ensures in
    let gone = c.in_ok-numbering.ensures
    ∙ (λ i. number_module (tree_of (c.module.ensures.value i)) (record { source = c.tokens.ensures i; ordinals = ordinals i; declaration = Some c.args.declaration; new = c.args.new.now })) in
    renumbered r c.args.declaration c.args.new.now (visit_module (tree_of r.module_read) (listing.initial_walk_state written)) parts.result.2.items c.module.ensures.resolved refl
    (parts.ensures.table ∙ ap (λ (v : WalkState). v.marks) gone)
