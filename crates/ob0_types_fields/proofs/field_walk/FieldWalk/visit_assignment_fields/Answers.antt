use Rattle.std.proofs.Common.{None, ◌∙◌}
use Rattle.ob0_tree.specs.View.{designator_of, expression_of}
use Rattle.ob0_types_fields.proofs.field_walk.FieldWalk.visit_assignment_fields.Goals as goal
use Rattle.ob0_types_fields.specs.IdentifierOwners.{selected_identifiers}
use Rattle.ob0_types_fields.specs.FieldWalks.{field_walk_meanings}
use Rattle.ob0_types_fields.proofs.FieldVisits.{on_ok, then_visited}

pub returns : goal.returns
returns g c =
    let m = field_walk_meanings c.args.self.now in
    on_ok c.visit_expression_fields.result c.visit_expression_fields.ensures
    (λ e. e ∙ then_visited g.V.FieldVisitor.state_after_one_field c.args.visitor.now (selected_identifiers m None (designator_of c.args.a.now.target)) (selected_identifiers m None (expression_of c.args.a.now.value)) c.in_ok-visit_designator_fields.ensures)
