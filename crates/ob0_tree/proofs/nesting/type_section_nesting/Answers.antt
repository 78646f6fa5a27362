use Rattle.std.proofs.Common.{sym, ap, ◌∙◌}
use Rattle.ob0_tree.specs.CappedDepth.{capped_to_u32}
use Rattle.ob0_tree.specs.Tree.{nesting}
use Rattle.ob0_tree.specs.View.{type_declaration_of, items_of, type_section_of}
use Rattle.ob0_tree.proofs.Deepest.{deeper_on, list_ends}
use Rattle.ob0_tree.proofs.nesting.type_section_nesting.Goals as goal

pub loop-d-preserved : goal.loop-d-preserved
loop-d-preserved c = deeper_on type_declaration_of c.d-item.result c.loop-d.invariant c.loop-d-test.true c.d-item.is c.type_nesting.ensures c.max-deepest.ensures

pub returns : goal.returns
returns c =
    list_ends c.loop-d.invariant c.loop-d-test.false
    ∙ ap capped_to_u32 (ap (λ xs. nesting (items_of type_declaration_of xs)) c.deref-d-items.ensures.value ∙ sym (ap (λ o. nesting (type_section_of o)) c.in-Some.is))
