use Rattle.std.proofs.Common.{◌∙◌, Some, option_map, ap, sym}
use Rattle.ob0_scope_table.specs.Resolution.{Resolution}
use Rattle.ob0_types_table.specs.DeclarationTables.{shapes_of}
use Rattle.ob0_types_table.specs.DeclarationTableView.{type_shape}
use Rattle.ob0_types_fields.specs.FieldTypes.{TypedField, typed_field_from_objects}
use Rattle.ob0_types_fields.specs.TypeConstructorSearch.{typed_field_view}
use Rattle.ob0_refs.specs.Questions.{hover_of_field_with_type}
use Rattle.ob0_refs.proofs.hovers_at_places.hover_of_field.Goals as goal

pub returns-in-None : goal.returns-in-None
returns-in-None c =
    let r = c.args.well_typed.now in
    let shapes = shapes_of c.declarations-known.result.now in
    let typed = c.typed_field.ensures ∙ (λ i. typed_field_from_objects (λ k. c.declarations-known.ensures k i) (c.resolved-names.ensures.value i) c.args.field) in
    ap (option_map (λ (f : TypedField). hover_of_field_with_type r c.args.field.token f.shape)) (ap (option_map (typed_field_view shapes)) (sym c.in-None.is) ∙ typed)

pub returns-in_ok-hover_of_field_with_type-in-Some : goal.returns-in_ok-hover_of_field_with_type-in-Some
returns-in_ok-hover_of_field_with_type-in-Some c =
    let r = c.args.well_typed.now in
    let shapes = shapes_of c.declarations-known.result.now in
    let typed = c.typed_field.ensures ∙ (λ i. typed_field_from_objects (λ k. c.declarations-known.ensures k i) (c.resolved-names.ensures.value i) c.args.field) in
    ap Some (c.in_ok-hover_of_field_with_type-in-Some.ensures ∙ ap (λ (q : Resolution). hover_of_field_with_type q c.args.field.token (type_shape shapes c.in-Some.found.type_id)) c.resolved-names.ensures.value)
    ∙ ap (option_map (λ (f : TypedField). hover_of_field_with_type r c.args.field.token f.shape)) (ap (option_map (typed_field_view shapes)) (sym c.in-Some.is) ∙ typed)
