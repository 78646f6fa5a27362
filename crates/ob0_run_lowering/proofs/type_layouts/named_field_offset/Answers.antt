use Rattle.std.proofs.Common.{sym, ap, ◌∙◌}
use Rattle.ob0_types_table.specs.FieldPlaces.{selected_field}
use Rattle.ob0_types_table.specs.DeclarationTables.{shapes_of}
use Rattle.ob0_types_table.specs.DeclarationTableView.{type_shape}
use Rattle.ob0_language_values.specs.Values.{at_field}
use Rattle.ob0_run_cells.specs.Cells.{step_offset}
use Rattle.ob0_run_lowering.proofs.type_layouts.named_field_offset.Goals as goal

pub returns-in-Some : goal.returns-in-Some
returns-in-Some c = λ laid.
    let shapes = shapes_of c.args.known.now in
    let (k, fs, e, l) = c.in-Some.ensures shapes laid in
    c.offset_of_field.ensures k fs c.args.name.now l (c.field.ensures ∙ ap (λ s. selected_field s c.args.name.now) e)
    ∙ sym (ap (λ s. step_offset s (at_field c.args.name.now)) (ap (type_shape shapes) c.in-Record.is ∙ e))
