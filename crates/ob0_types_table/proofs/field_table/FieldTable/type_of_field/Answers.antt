use Rattle.std.proofs.Common.{option_map, ap, ◌∙◌}
use Rattle.ob0_types_table.specs.FirstFieldMaps.{type_of_first_field_named}
use Rattle.ob0_types_table.specs.declared.field_table.FirstField.{FirstField}
use Rattle.ob0_types_table.specs.DeclarationTableView.{field_shapes, type_shape}
use Rattle.ob0_language_types.specs.Typing.{named_field_shape}
use Rattle.ob0_types_table.proofs.FirstFields.{find_field_counting_from-shape, find_field_counting_from-type}
use Rattle.ob0_types_table.proofs.field_table.FieldTable.type_of_field.Goals as goal

pub returns-in-None : goal.returns-in-None
returns-in-None c = record {
  first = ap (option_map (λ (f : FirstField). f.of)) (c.in-None.ensures.value ∙ c.self.invariant.found c.args.name.now)
      ∙ find_field_counting_from-type 0 c.self.inside.fields.items c.args.name.now
      ∙ ap (λ fs. type_of_first_field_named fs c.args.name.now) c.self.view_is;
  shape = λ shapes.
      ap (λ o. option_map (type_shape shapes) (option_map (λ (f : FirstField). f.of) o)) (c.in-None.ensures.value ∙ c.self.invariant.found c.args.name.now)
      ∙ find_field_counting_from-shape shapes 0 c.self.inside.fields.items c.args.name.now
      ∙ ap (λ fs. named_field_shape (field_shapes shapes fs) c.args.name.now) c.self.view_is;
}

pub returns-in-Some : goal.returns-in-Some
returns-in-Some c = record {
  first = ap (option_map (λ (f : FirstField). f.of)) (c.in-Some.ensures.value ∙ c.self.invariant.found c.args.name.now)
      ∙ find_field_counting_from-type 0 c.self.inside.fields.items c.args.name.now
      ∙ ap (λ fs. type_of_first_field_named fs c.args.name.now) c.self.view_is;
  shape = λ shapes.
      ap (λ o. option_map (type_shape shapes) (option_map (λ (f : FirstField). f.of) o)) (c.in-Some.ensures.value ∙ c.self.invariant.found c.args.name.now)
      ∙ find_field_counting_from-shape shapes 0 c.self.inside.fields.items c.args.name.now
      ∙ ap (λ fs. named_field_shape (field_shapes shapes fs) c.args.name.now) c.self.view_is;
}
