use Rattle.std.proofs.Common.{◌≡◌, IfOk, OnOk, Option, Some, option_and_then, option_map, sym, ap, ◌∙◌, subst}
use Rattle.ob0_language_types.specs.Typing.{field_type}
use Rattle.ob0_types_table.specs.DeclarationTables.{shapes_of}
use Rattle.ob0_types_table.specs.TypeWithParts.{shape_of_type_with_parts}
use Rattle.ob0_types_table.specs.DeclarationTableView.{type_shape}
use Rattle.ob0_language_values.specs.Values.{Shape}
use Rattle.ob0_types_fields.proofs.field_walk.FieldWalk.visit_selected_field.Goals as goal
use Rattle.ob0_types_fields.specs.IdentifierOwners.{owner}
use Rattle.ob0_types_fields.specs.FieldWalks.{field_walk_meanings, record_shape_in_walk, state_after_owner}

pub returns-in-Record-clause-visited : goal.returns-in-Record-clause-visited
returns-in-Record-clause-visited g c =
    let w = c.args.self.now in
    let shapes = shapes_of w.table.now in
    let base : Some (record_shape_in_walk w c.in-Record.shape.now) ≡ option_map (type_shape shapes) c.args.base =
    ap Some (ap (shape_of_type_with_parts shapes) (sym c.in-Record.is) ∙ c.parts.ensures.shape) ∙ ap (option_map (type_shape shapes)) (sym c.in-Some.is) in
    subst (λ (s : Option Shape). OnOk c.visit_field_selected_in_record.result (c.visit_field_selected_in_record.new.visitor ≡ state_after_owner g.V.FieldVisitor.state_after_one_field c.args.name (owner s ((field_walk_meanings w).written c.args.name)) c.args.visitor.now)) base c.visit_field_selected_in_record.ensures.visited

pub returns-in-Record-clause-following : goal.returns-in-Record-clause-following
returns-in-Record-clause-following g c =
    let w = c.args.self.now in
    let shapes = shapes_of w.table.now in
    let x = (field_walk_meanings w).written c.args.name in
    let base : Some (record_shape_in_walk w c.in-Record.shape.now) ≡ option_map (type_shape shapes) c.args.base =
    ap Some (ap (shape_of_type_with_parts shapes) (sym c.in-Record.is) ∙ c.parts.ensures.shape) ∙ ap (option_map (type_shape shapes)) (sym c.in-Some.is) in
    subst (λ (s : Option Shape). IfOk c.visit_field_selected_in_record.result (λ t. option_map (type_shape shapes) t ≡ option_and_then (λ z. field_type z x) s)) base c.visit_field_selected_in_record.ensures.following
