use Rattle.std.proofs.Common.{max, sym, ap, ◌∙◌}
use Rattle.ob0_tree.proofs.Viewed.{block_parts}
use Rattle.ob0_tree.specs.declared.tree.Block.{out-Block}
use Rattle.ob0_tree.specs.CappedDepth.{capped_to_u32}
use Rattle.ob0_tree.specs.Tree.{nesting}
use Rattle.ob0_tree.specs.View.{items_of, constant_section_of, type_section_of, variable_section_of, procedure_of, body_of}
use Rattle.ob0_tree.proofs.Deepest.{deeper_on, deepest_ends, two_deep, zero_max}
use Rattle.ob0_tree.proofs.nesting.+blocks.Goals as goal

pub block_nesting-loop-p-preserved : goal.block_nesting-loop-p-preserved
block_nesting-loop-p-preserved t c = deeper_on procedure_of c.p-item.result c.loop-p.invariant c.loop-p-test.true c.p-item.is c.procedure_nesting.ensures c.max-procedures.ensures

pub block_nesting-returns : goal.block_nesting-returns
block_nesting-returns t c =
    let b = out-Block c.args.b.now in
    let procedures = deepest_ends c.loop-p.invariant c.loop-p-test.false ∙ (zero_max (capped_to_u32 (nesting (items_of procedure_of c.deref-p-items.result.now))) ∙ ap (λ xs. capped_to_u32 (nesting (items_of procedure_of xs))) c.deref-p-items.ensures.value) in
    let constants = nesting (constant_section_of b.constants) in
    let types = nesting (type_section_of b.types) in
    let variables = nesting (variable_section_of b.variables) in
    let inner = nesting (items_of procedure_of b.procedures.items) in
    let names = two_deep constants types c.constant_section_nesting-constants.ensures c.type_section_nesting-types.ensures c.max.ensures in
    let others = two_deep variables inner c.variable_section_nesting-variables.ensures procedures c.max-2.ensures in
    let declared = two_deep (max constants types) (max variables inner) names others c.max-declared.ensures in
    two_deep (max (max constants types) (max variables inner)) (nesting (body_of b.body)) declared c.body_nesting.ensures c.max-3.ensures
    ∙ ap (λ t. capped_to_u32 (nesting t)) (sym (block_parts c.args.b.now))
