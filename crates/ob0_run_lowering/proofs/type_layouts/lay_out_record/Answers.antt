use Rattle.std.proofs.Common.{◌∙◌, ap}
use Rattle.ob0_run_cells.specs.Cells.{shape_cell_count}
use Rattle.ob0_types_table.specs.DeclarationTableView.{type_shape}
use Rattle.ob0_types_table.specs.declared.declaration_table.Field.{Field}
use Rattle.ob0_run_lowering.proofs.LaidOut.{laid_begins, laid_ends, laid_goes_on}
use Rattle.ob0_run_lowering.proofs.type_layouts.lay_out_record.Goals as goal

pub loop-field-init : goal.loop-field-init
loop-field-init c = λ shapes laid. laid_begins shapes c.args.fields.now c.new-offsets.result.items c.new-offsets.ensures.items

pub loop-field-preserved : goal.loop-field-preserved
loop-field-preserved c = λ shapes laid.
    laid_goes_on c.field-item.result c.size_from_layouts.result c.in_ok-cells.cells c.push.new.self.items (c.loop-field.invariant shapes laid) c.loop-field-test.true
    (c.size_from_layouts.ensures shapes laid ∙ ap (λ (f : Field). shape_cell_count (type_shape shapes f.of)) c.field-item.is) c.in_ok-cells.ensures c.in_ok-push.ensures.items

pub returns : goal.returns
returns c = λ shapes laid. let (cells, offsets) = laid_ends (c.loop-field.invariant shapes laid) c.loop-field-test.false in record { cells = cells; offsets = offsets }
