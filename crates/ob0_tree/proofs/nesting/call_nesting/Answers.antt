use Rattle.std.proofs.Common.{◌≡◌, List, [], ◌∷◌, refl, sym, ap, ◌∙◌}
use Rattle.ob0_tree.specs.declared.tree.Expression.{Expression}
use Rattle.ob0_tree.specs.CappedDepth.{capped_to_u32}
use Rattle.ob0_tree.specs.Tree.{nesting}
use Rattle.ob0_tree.specs.View.{argument_after_comma_of, items_of, arguments_of, arguments_of_list}
use Rattle.ob0_tree.proofs.Deepest.{deeper_on, list_ends}
use Rattle.ob0_tree.proofs.nesting.call_nesting.Goals as goal

arguments_nest : (xs : List Expression) → nesting (items_of argument_after_comma_of xs) ≡ nesting (arguments_of_list xs)
arguments_nest [] = refl
arguments_nest (x ∷ xs) = refl

pub loop-e-preserved : goal.loop-e-preserved
loop-e-preserved c = deeper_on argument_after_comma_of c.e-item.result c.loop-e.invariant c.loop-e-test.true c.e-item.is c.expression_nesting.ensures c.max-deepest.ensures

pub returns : goal.returns
returns c =
    list_ends c.loop-e.invariant c.loop-e-test.false
    ∙ ap capped_to_u32 (ap (λ xs. nesting (items_of argument_after_comma_of xs)) c.deref-e-items.ensures.value ∙ (arguments_nest c.in-Some.arguments.items ∙ sym (ap (λ o. nesting (arguments_of o)) c.in-Some.is)))
