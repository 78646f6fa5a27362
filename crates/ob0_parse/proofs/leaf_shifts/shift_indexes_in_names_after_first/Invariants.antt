use Rattle.std.proofs.Common.{◌≡◌, length}
use Rattle.ob0_tree.specs.Tree.{comma_then_name}
use Rattle.ob0_parse.proofs.Moved.{ShiftedTrees}
use Rattle.ob0_parse.proofs.leaf_shifts.shift_indexes_in_names_after_first.Given as goal

abbrev pub invariant-loop-i : goal.invariant-loop-i
invariant-loop-i l = (length l.leaves.items ≡ length l.initial.leaves.items) × ShiftedTrees comma_then_name l.by l.initial.leaves.items l.i l.leaves.items
