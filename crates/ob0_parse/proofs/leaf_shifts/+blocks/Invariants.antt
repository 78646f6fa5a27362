use Rattle.ob0_tree.specs.View.{procedure_of}
use Rattle.ob0_parse.proofs.Moved.{ShiftedTrees}
use Rattle.ob0_parse.proofs.leaf_shifts.+blocks.Given as goal

abbrev pub invariant-shift_indexes_in_procedures-loop-i : goal.invariant-shift_indexes_in_procedures-loop-i
invariant-shift_indexes_in_procedures-loop-i l = goal.unvisited-shift_indexes_in_procedures-loop-i l × ShiftedTrees procedure_of l.by l.initial.ps.items l.i l.ps.items
