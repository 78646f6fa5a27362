use Rattle.std.proofs.Common.{sym, ap, ◌∙◌}
use Rattle.ob0_tree.proofs.Viewed.{addend_parts, designator_made, simple_parts, term_parts}
use Rattle.ob0_tree.specs.declared.tree.SimpleExpression.{out-SimpleExpression}
use Rattle.ob0_tree.specs.declared.tree.Term.{out-Term}
use Rattle.ob0_tree.specs.CappedDepth.{capped_to_u32}
use Rattle.ob0_tree.specs.Tree.{nesting}
use Rattle.ob0_tree.specs.View.{items_of, addend_of, multiplier_of, selector_of, term_of, factor_of}
use Rattle.ob0_tree.proofs.Deepest.{deeper_on, deepest_ends, list_ends, two_deep}
use Rattle.ob0_tree.proofs.nesting.+expressions.Goals as goal

pub factor_nesting-returns-in-Designator : goal.factor_nesting-returns-in-Designator
factor_nesting-returns-in-Designator t c =
    c.designator_nesting.ensures ∙ ap (λ t. capped_to_u32 (nesting t)) (sym (designator_made c.in-Designator.d) ∙ sym (ap factor_of c.in-Designator.is))

pub designator_nesting-loop-s-preserved : goal.designator_nesting-loop-s-preserved
designator_nesting-loop-s-preserved t c = deeper_on selector_of c.s-item.result c.loop-s.invariant c.loop-s-test.true c.s-item.is c.selector_nesting.ensures c.max-deepest.ensures

pub designator_nesting-returns : goal.designator_nesting-returns
designator_nesting-returns t c =
    list_ends c.loop-s.invariant c.loop-s-test.false
    ∙ ap (λ xs. capped_to_u32 (nesting (items_of selector_of xs))) c.deref-s-items.ensures.value

pub simple_expression_nesting-loop-addend-preserved : goal.simple_expression_nesting-loop-addend-preserved
simple_expression_nesting-loop-addend-preserved t c =
    let a = c.addend-item.result in
    deeper_on addend_of a c.loop-addend.invariant c.loop-addend-test.true c.addend-item.is (c.term_nesting.ensures ∙ ap (λ t. capped_to_u32 (nesting t)) (sym (addend_parts a))) c.max-deepest.ensures

pub term_nesting-loop-multiplier-preserved : goal.term_nesting-loop-multiplier-preserved
term_nesting-loop-multiplier-preserved t c = deeper_on multiplier_of c.multiplier-item.result c.loop-multiplier.invariant c.loop-multiplier-test.true c.multiplier-item.is c.factor_nesting.ensures c.max-deepest.ensures

pub simple_expression_nesting-returns : goal.simple_expression_nesting-returns
simple_expression_nesting-returns t c =
    let items = deepest_ends c.loop-addend.invariant c.loop-addend-test.false in
    let listed = ap (λ xs. capped_to_u32 (nesting (items_of addend_of xs))) c.deref-addend-items.ensures.value in
    let s = out-SimpleExpression c.args.s.now in
    two_deep (nesting (term_of s.first)) (nesting (items_of addend_of s.more.items)) c.term_nesting-deepest.ensures listed items
    ∙ ap (λ t. capped_to_u32 (nesting t)) (sym (simple_parts c.args.s.now))

pub term_nesting-returns : goal.term_nesting-returns
term_nesting-returns t c =
    let items = deepest_ends c.loop-multiplier.invariant c.loop-multiplier-test.false in
    let listed = ap (λ xs. capped_to_u32 (nesting (items_of multiplier_of xs))) c.deref-multiplier-items.ensures.value in
    let s = out-Term c.args.t.now in
    two_deep (nesting (factor_of s.first)) (nesting (items_of multiplier_of s.more.items)) c.factor_nesting-deepest.ensures listed items
    ∙ ap (λ t. capped_to_u32 (nesting t)) (sym (term_parts c.args.t.now))
