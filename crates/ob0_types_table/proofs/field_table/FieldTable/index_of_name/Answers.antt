use Rattle.std.proofs.Common.{option_map, ap, ◌∙◌}
use Rattle.ob0_types_table.specs.declared.field_table.FirstField.{FirstField}
use Rattle.ob0_types_table.specs.FieldPlaces.{position_of_field}
use Rattle.ob0_types_table.specs.DeclarationTableView.{field_shapes}
use Rattle.ob0_types_table.proofs.FirstFields.{first-place}
use Rattle.ob0_types_table.proofs.field_table.FieldTable.index_of_name.Goals as goal

pub returns-in-None : goal.returns-in-None
returns-in-None c = λ shapes.
    ap (option_map (λ (f : FirstField). f.place)) (c.in-None.ensures.value ∙ c.self.invariant.found c.args.name.now)
    ∙ first-place shapes c.self.inside.fields.items c.args.name.now
    ∙ ap (λ fs. position_of_field (field_shapes shapes fs) c.args.name.now) c.self.view_is

pub returns-in-Some : goal.returns-in-Some
returns-in-Some c = λ shapes.
    ap (option_map (λ (f : FirstField). f.place)) (c.in-Some.ensures.value ∙ c.self.invariant.found c.args.name.now)
    ∙ first-place shapes c.self.inside.fields.items c.args.name.now
    ∙ ap (λ fs. position_of_field (field_shapes shapes fs) c.args.name.now) c.self.view_is
