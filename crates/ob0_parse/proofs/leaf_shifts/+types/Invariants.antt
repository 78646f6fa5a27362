use Rattle.ob0_tree.specs.View.{optional_field_group_of}
use Rattle.ob0_parse.proofs.Moved.{ShiftedTrees}
use Rattle.ob0_parse.proofs.leaf_shifts.+types.Given as goal

abbrev pub invariant-shift_indexes_in_field_groups-loop-i : goal.invariant-shift_indexes_in_field_groups-loop-i
invariant-shift_indexes_in_field_groups-loop-i l = goal.unvisited-shift_indexes_in_field_groups-loop-i l × ShiftedTrees optional_field_group_of l.by l.initial.parts.items l.i l.parts.items
