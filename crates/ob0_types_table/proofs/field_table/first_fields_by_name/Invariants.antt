use Rattle.ob0_types_table.proofs.FirstFields.{Filled}
use Rattle.ob0_types_table.proofs.field_table.first_fields_by_name.Given as goal

abbrev pub invariant-loop-left : goal.invariant-loop-left
invariant-loop-left l = Filled l.first l.fields l.left

abbrev pub decreases-loop-left : goal.decreases-loop-left
decreases-loop-left l = l.left
