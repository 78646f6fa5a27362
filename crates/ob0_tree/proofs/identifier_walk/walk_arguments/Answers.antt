use Rattle.std.proofs.Common.{◌≡◌, List, [], ◌∷◌, refl, ap, ◌∙◌}
use Rattle.ob0_tree.specs.declared.tree.Expression.{Expression}
use Rattle.ob0_tree.specs.declared.tree.Role.TheVariants as role
use Rattle.ob0_tree.specs.Tree.{identifiers}
use Rattle.ob0_tree.specs.View.{arguments_of_list, argument_after_comma_of, items_of}
use Rattle.ob0_tree.specs.VisitorStates.{state_after_identifiers}
use Rattle.ob0_tree.proofs.Visits.{all_visited, visits_on}
use Rattle.ob0_tree.proofs.identifier_walk.walk_arguments.Goals as goal

arguments_visited : (es : List Expression) → identifiers role.DeclaringName (items_of argument_after_comma_of es) ≡ identifiers role.DeclaringName (arguments_of_list es)
arguments_visited [] = refl
arguments_visited (e ∷ es) = refl

pub loop-e-preserved : goal.loop-e-preserved
loop-e-preserved g c = visits_on argument_after_comma_of c.e-item.result c.walk_expression.new.visitor c.loop-e.invariant c.loop-e-test.true c.e-item.is c.in_ok-walk_expression.ensures

pub returns : goal.returns
returns g c =
    all_visited c.loop-e.invariant c.loop-e-test.false
    ∙ ap (λ is. state_after_identifiers g.V.Visitor.state_after_one_identifier is c.args.visitor.now)
    (ap (λ xs. identifiers role.DeclaringName (items_of argument_after_comma_of xs)) c.deref-e-items.ensures.value ∙ arguments_visited c.args.given.now.items)
