use Rattle.ob0_tree.specs.View.{statement_of, elsif_of}
use Rattle.ob0_parse.proofs.Moved.{ShiftedTrees}
use Rattle.ob0_parse.proofs.leaf_shifts.+statements.Given as goal

abbrev pub invariant-shift_indexes_in_sequence-loop-i : goal.invariant-shift_indexes_in_sequence-loop-i
invariant-shift_indexes_in_sequence-loop-i l = goal.unvisited-shift_indexes_in_sequence-loop-i l × ShiftedTrees statement_of l.by l.initial.statements.items l.i l.statements.items

abbrev pub invariant-shift_indexes_in_elsifs-loop-i : goal.invariant-shift_indexes_in_elsifs-loop-i
invariant-shift_indexes_in_elsifs-loop-i l = goal.unvisited-shift_indexes_in_elsifs-loop-i l × ShiftedTrees elsif_of l.by l.initial.parts.items l.i l.parts.items
