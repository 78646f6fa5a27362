use Rattle.std.proofs.Common.{◌≡◌, List, [], ◌∷◌, refl, sym, ap, ◌∙◌}
use Rattle.ob0_tree.specs.declared.tree.Role.TheVariants as role
use Rattle.ob0_tree.specs.declared.tree.ParameterSection.{ParameterSection}
use Rattle.ob0_tree.specs.Tree.{identifiers}
use Rattle.ob0_tree.specs.View.{items_of, parameter_section_after_semicolon_of, formals_of_list, formals_of}
use Rattle.ob0_tree.specs.VisitorStates.{state_after_identifiers}
use Rattle.ob0_tree.proofs.Visits.{all_visited, visits_on}
use Rattle.ob0_tree.proofs.identifier_walk.walk_formals.Goals as goal

sections_listed : (ss : List ParameterSection) → identifiers role.DeclaringName (items_of parameter_section_after_semicolon_of ss) ≡ identifiers role.DeclaringName (formals_of_list ss)
sections_listed [] = refl
sections_listed (s ∷ ss) = refl

pub loop-s-preserved : goal.loop-s-preserved
loop-s-preserved g c = visits_on parameter_section_after_semicolon_of c.s-item.result c.walk_parameter_section.new.visitor c.loop-s.invariant c.loop-s-test.true c.s-item.is c.in_ok-walk_parameter_section.ensures

pub returns : goal.returns
returns g c =
    all_visited c.loop-s.invariant c.loop-s-test.false
    ∙ ap (λ is. state_after_identifiers g.V.Visitor.state_after_one_identifier is c.args.visitor.now)
    (ap (λ xs. identifiers role.DeclaringName (items_of parameter_section_after_semicolon_of xs)) c.deref-s-items.ensures.value ∙ (sections_listed c.in-Some.sections.items ∙ sym (ap (λ o. identifiers role.DeclaringName (formals_of o)) c.in-Some.is)))
