use Rattle.std.proofs.Common.{◌≡◌, ℕ, List, [], ◌∷◌, refl, ap, ◌∙◌, None}
use Rattle.ob0_tree.specs.declared.tree.Expression.{Expression}
use Rattle.ob0_tree.specs.View.{arguments_of_list, argument_after_comma_of, items_of}
use Rattle.ob0_language_types.specs.Expressions.{Meanings}
use Rattle.ob0_language_types.specs.WellTyped.{Signature}
use Rattle.ob0_language_values.specs.Values.{Shape}
use Rattle.ob0_types_fields.proofs.field_walk.FieldWalk.visit_argument_fields.Goals as goal
use Rattle.ob0_types_fields.specs.IdentifierOwners.{selected_identifiers}
use Rattle.ob0_types_fields.specs.FieldWalks.{field_walk_meanings, state_after_identifiers}
use Rattle.ob0_types_fields.proofs.FieldVisits.{all_visited, visits_on}

arguments_visited : (m : Meanings ℕ Shape Signature) (es : List Expression) → selected_identifiers m None (items_of argument_after_comma_of es) ≡ selected_identifiers m None (arguments_of_list es)
arguments_visited m [] = refl
arguments_visited m (e ∷ es) = refl

pub loop-e-preserved : goal.loop-e-preserved
loop-e-preserved g c = visits_on argument_after_comma_of c.e-item.result c.visit_expression_fields.new.visitor c.loop-e.invariant c.loop-e-test.true c.e-item.is c.in_ok-visit_expression_fields.ensures

pub returns : goal.returns
returns g c =
    let m = field_walk_meanings c.args.self.now in
    all_visited c.loop-e.invariant c.loop-e-test.false
    ∙ ap (λ is. state_after_identifiers g.V.FieldVisitor.state_after_one_field is c.args.visitor.now)
    (ap (λ xs. selected_identifiers m None (items_of argument_after_comma_of xs)) c.deref-e-items.ensures.value ∙ arguments_visited m c.args.given.now.items)
