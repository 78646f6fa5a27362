use Rattle.std.proofs.Common.{sym, ap, ◌∙◌}
use Rattle.ob0_tree.specs.declared.tree.Role.TheVariants as role
use Rattle.ob0_tree.specs.Tree.{identifiers}
use Rattle.ob0_tree.specs.View.{expression_of, constant_declaration_of, items_of, constant_section_of}
use Rattle.ob0_tree.specs.VisitorStates.{state_after_identifiers}
use Rattle.ob0_tree.proofs.Visits.{all_visited, visits_on}
use Rattle.ob0_tree.proofs.identifier_walk.walk_constant_declarations.Goals as goal

pub loop-c-preserved : goal.loop-c-preserved
loop-c-preserved g c =
    let x = c.c-item.result in
    visits_on constant_declaration_of x c.walk_expression.new.visitor c.loop-c.invariant c.loop-c-test.true c.c-item.is
    (c.in_ok-walk_expression.ensures ∙ ap (state_after_identifiers g.V.Visitor.state_after_one_identifier (identifiers role.DeclaringName (expression_of x.value))) c.in_ok-visit_one_identifier.ensures)

pub returns : goal.returns
returns g c =
    all_visited c.loop-c.invariant c.loop-c-test.false
    ∙ ap (λ is. state_after_identifiers g.V.Visitor.state_after_one_identifier is c.args.visitor.now)
    (ap (λ xs. identifiers role.DeclaringName (items_of constant_declaration_of xs)) c.deref-c-items.ensures.value ∙ sym (ap (λ o. identifiers role.DeclaringName (constant_section_of o)) c.in-Some.is))
