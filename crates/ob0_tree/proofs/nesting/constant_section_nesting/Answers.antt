use Rattle.std.proofs.Common.{sym, ap, ◌∙◌}
use Rattle.ob0_tree.specs.CappedDepth.{capped_to_u32}
use Rattle.ob0_tree.specs.Tree.{nesting}
use Rattle.ob0_tree.specs.View.{constant_declaration_of, items_of, constant_section_of}
use Rattle.ob0_tree.proofs.Deepest.{deeper_on, list_ends}
use Rattle.ob0_tree.proofs.nesting.constant_section_nesting.Goals as goal

pub loop-c-preserved : goal.loop-c-preserved
loop-c-preserved c = deeper_on constant_declaration_of c.c-item.result c.loop-c.invariant c.loop-c-test.true c.c-item.is c.expression_nesting.ensures c.max-deepest.ensures

pub returns : goal.returns
returns c =
    list_ends c.loop-c.invariant c.loop-c-test.false
    ∙ ap capped_to_u32 (ap (λ xs. nesting (items_of constant_declaration_of xs)) c.deref-c-items.ensures.value ∙ sym (ap (λ o. nesting (constant_section_of o)) c.in-Some.is))
