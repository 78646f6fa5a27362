use Rattle.std.proofs.Common.{sym, ap, ◌∙◌}
use Rattle.ob0_tree.specs.CappedDepth.{capped_to_u32}
use Rattle.ob0_tree.specs.Tree.{nesting}
use Rattle.ob0_tree.specs.View.{variable_declaration_of, items_of, variable_section_of}
use Rattle.ob0_tree.proofs.Deepest.{deeper_on, list_ends}
use Rattle.ob0_tree.proofs.nesting.variable_section_nesting.Goals as goal

pub loop-v-preserved : goal.loop-v-preserved
loop-v-preserved c = deeper_on variable_declaration_of c.v-item.result c.loop-v.invariant c.loop-v-test.true c.v-item.is c.type_nesting.ensures c.max-deepest.ensures

pub returns : goal.returns
returns c =
    list_ends c.loop-v.invariant c.loop-v-test.false
    ∙ ap capped_to_u32 (ap (λ xs. nesting (items_of variable_declaration_of xs)) c.deref-v-items.ensures.value ∙ sym (ap (λ o. nesting (variable_section_of o)) c.in-Some.is))
