use Rattle.std.proofs.Common.{◌++◌, None, sym, ap, ◌∙◌}
use Rattle.ob0_tree.proofs.Viewed.{block_parts, procedure_made}
use Rattle.ob0_tree.specs.declared.tree.Block.{out-Block}
use Rattle.ob0_tree.specs.declared.tree.Procedure.{out-Procedure, roll-out-Procedure}
use Rattle.ob0_tree.specs.View.{block_of, formals_of, items_of, procedure_of, type_section_of, variable_section_of}
use Rattle.ob0_types_fields.specs.FieldTypes.{constructed_types}
use Rattle.ob0_types_fields.specs.TypeConstructorSearch.{state_after_constructors, constructor_walk_meanings, search_view_in_walk, shape_in_walk}
use Rattle.ob0_types_fields.proofs.ConstructorWalks.{after_both, found_stays, items_end, items_go_on}
use Rattle.ob0_types_fields.proofs.field_types.TypeConstructorWalk.+blocks.Goals as goal

pub search_block-loop-p-preserved : goal.search_block-loop-p-preserved
search_block-loop-p-preserved t c =
    items_go_on c.p-item.result (search_view_in_walk c.args.self.now c.search_procedure-search.result) c.loop-p.invariant c.loop-p-test.true c.p-item.is c.search_procedure-search.ensures

pub search_block-returns : goal.search_block-returns
search_block-returns t c =
    let b = out-Block c.args.b.now in
    let m = constructor_walk_meanings c.args.self.now in
    let start = search_view_in_walk c.args.self.now c.args.search in
    let ts = constructed_types m None (type_section_of b.types) in
    let vs = constructed_types m None (variable_section_of b.variables) in
    let ps = constructed_types m None (items_of procedure_of b.procedures.items) in
    items_end c.loop-p.invariant c.loop-p-test.false
    ∙ (λ i. state_after_constructors (c.search_variable_section-search.ensures i) (constructed_types m None (items_of procedure_of (c.deref-p-items.ensures.value i))))
    ∙ sym (after_both (search_view_in_walk c.args.self.now c.search_type_section-search.result) vs ps)
    ∙ ap (λ s. state_after_constructors s (vs ++ ps)) c.search_type_section-search.ensures
    ∙ sym (after_both start ts (vs ++ ps))
    ∙ ap (λ z. state_after_constructors start (constructed_types m None z)) (sym (block_parts c.args.b.now))

pub search_procedure-returns-in-Found : goal.search_procedure-returns-in-Found
search_procedure-returns-in-Found t c =
    let w = c.args.self.now in
    let ts = constructed_types (constructor_walk_meanings w) None (procedure_of c.args.p.now) in
    sym (found_stays (shape_in_walk w c.in-Found.of) ts) ∙ ap (λ s. state_after_constructors (search_view_in_walk w s) ts) (sym c.in-Found.is)

pub search_procedure-returns-in-Skipping : goal.search_procedure-returns-in-Skipping
search_procedure-returns-in-Skipping t c =
    let p = out-Procedure c.args.p.now in
    let m = constructor_walk_meanings c.args.self.now in
    let start = search_view_in_walk c.args.self.now c.args.search in
    let fs = constructed_types m None (formals_of p.formals) in
    let b = constructed_types m None (block_of p.block) in
    c.search_block.ensures
    ∙ ap (λ s. state_after_constructors s b) c.search_formals.ensures
    ∙ sym (after_both start fs b)
    ∙ ap (λ z. state_after_constructors start (constructed_types m None z)) (sym (sym (ap procedure_of (roll-out-Procedure c.args.p.now)) ∙ procedure_made p))
