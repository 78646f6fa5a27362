use Rattle.std.proofs.Common.{[], take}
use Rattle.ob0_types_table.specs.DeclarationTableView.{append_shapes_of_entries}
use Rattle.ob0_run_lowering.specs.Layouts.{AreLayoutsOfTypes}
use Rattle.ob0_run_lowering.proofs.type_layouts.lay_out_types.Given as goal

abbrev pub invariant-loop-shape : goal.invariant-loop-shape
invariant-loop-shape l = AreLayoutsOfTypes (append_shapes_of_entries [] (take l.shape-index l.shape-items)) l.layouts.items
