use Rattle.std.proofs.Common.{sym, ap, ◌∙◌}
use Rattle.ob0_tree.specs.declared.tree.Role.TheVariants as role
use Rattle.ob0_tree.specs.Tree.{identifiers}
use Rattle.ob0_tree.specs.View.{type_of, type_declaration_of, items_of, type_section_of}
use Rattle.ob0_tree.specs.VisitorStates.{state_after_identifiers}
use Rattle.ob0_tree.proofs.Visits.{all_visited, visits_on}
use Rattle.ob0_tree.proofs.identifier_walk.walk_type_declarations.Goals as goal

pub loop-d-preserved : goal.loop-d-preserved
loop-d-preserved g c =
    let x = c.d-item.result in
    visits_on type_declaration_of x c.walk_type.new.visitor c.loop-d.invariant c.loop-d-test.true c.d-item.is
    (c.in_ok-walk_type.ensures ∙ ap (state_after_identifiers g.V.Visitor.state_after_one_identifier (identifiers role.DeclaringName (type_of x.written))) c.in_ok-visit_one_identifier.ensures)

pub returns : goal.returns
returns g c =
    all_visited c.loop-d.invariant c.loop-d-test.false
    ∙ ap (λ is. state_after_identifiers g.V.Visitor.state_after_one_identifier is c.args.visitor.now)
    (ap (λ xs. identifiers role.DeclaringName (items_of type_declaration_of xs)) c.deref-d-items.ensures.value ∙ sym (ap (λ o. identifiers role.DeclaringName (type_section_of o)) c.in-Some.is))
