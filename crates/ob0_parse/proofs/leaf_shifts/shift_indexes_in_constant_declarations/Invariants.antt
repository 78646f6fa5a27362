use Rattle.std.proofs.Common.{◌≡◌, length}
use Rattle.ob0_tree.specs.View.{constant_declaration_of}
use Rattle.ob0_parse.proofs.Moved.{ShiftedTrees}
use Rattle.ob0_parse.proofs.leaf_shifts.shift_indexes_in_constant_declarations.Given as goal

abbrev pub invariant-loop-i : goal.invariant-loop-i
invariant-loop-i l = (length l.listed.items ≡ length l.initial.listed.items) × ShiftedTrees constant_declaration_of l.by l.initial.listed.items l.i l.listed.items
