use Rattle.std.proofs.Common.{sym, ap, ◌∙◌}
use Rattle.ob0_tree.specs.declared.tree.Role.TheVariants as role
use Rattle.ob0_tree.specs.Tree.{identifiers}
use Rattle.ob0_tree.specs.View.{items_of, names_of, type_of, variable_declaration_of, variable_section_of}
use Rattle.ob0_tree.specs.VisitorStates.{state_after_identifiers}
use Rattle.ob0_tree.proofs.Visits.{all_visited, then_visited, visits_on}
use Rattle.ob0_tree.proofs.identifier_walk.walk_variable_declarations.Goals as goal

pub loop-v-preserved : goal.loop-v-preserved
loop-v-preserved g c =
    let v = c.v-item.result in
    let names = identifiers role.DeclaringName (names_of v.names) in
    visits_on variable_declaration_of v c.walk_type.new.visitor c.loop-v.invariant c.loop-v-test.true c.v-item.is
    (c.in_ok-walk_type.ensures ∙ then_visited g.V.Visitor.state_after_one_identifier c.loop-v.visitor names (identifiers role.DeclaringName (type_of v.written)) c.in_ok-walk_names.ensures)

pub returns : goal.returns
returns g c =
    all_visited c.loop-v.invariant c.loop-v-test.false
    ∙ ap (λ is. state_after_identifiers g.V.Visitor.state_after_one_identifier is c.args.visitor.now)
    (ap (λ xs. identifiers role.DeclaringName (items_of variable_declaration_of xs)) c.deref-v-items.ensures.value ∙ sym (ap (λ o. identifiers role.DeclaringName (variable_section_of o)) c.in-Some.is))
