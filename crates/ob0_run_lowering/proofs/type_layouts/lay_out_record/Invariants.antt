use Rattle.std.proofs.Common.{List}
use Rattle.ob0_language_values.specs.Values.{Shape}
use Rattle.ob0_run_lowering.specs.Layouts.{AreLayoutsOfTypes}
use Rattle.ob0_run_lowering.proofs.LaidOut.{LaidSoFar}
use Rattle.ob0_run_lowering.proofs.type_layouts.lay_out_record.Given as goal

abbrev pub invariant-loop-field : goal.invariant-loop-field
invariant-loop-field l = (shapes : List Shape) → AreLayoutsOfTypes shapes l.layouts → LaidSoFar shapes l.fields l.field-index l.cells l.offsets.items
