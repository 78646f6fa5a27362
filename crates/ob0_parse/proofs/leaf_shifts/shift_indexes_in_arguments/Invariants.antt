use Rattle.std.proofs.Common.{◌≡◌, length}
use Rattle.ob0_tree.specs.View.{expression_of}
use Rattle.ob0_parse.proofs.Moved.{ShiftedTrees}
use Rattle.ob0_parse.proofs.leaf_shifts.shift_indexes_in_arguments.Given as goal

abbrev pub invariant-loop-i : goal.invariant-loop-i
invariant-loop-i l = (length l.given.items ≡ length l.initial.given.items) × ShiftedTrees expression_of l.by l.initial.given.items l.i l.given.items
