use Rattle.ob0_tree.specs.View.{addend_of, multiplier_of, selector_of}
use Rattle.ob0_parse.proofs.Moved.{ShiftedTrees}
use Rattle.ob0_parse.proofs.leaf_shifts.+expressions.Given as goal

abbrev pub invariant-shift_indexes_in_addends-loop-i : goal.invariant-shift_indexes_in_addends-loop-i
invariant-shift_indexes_in_addends-loop-i l = goal.unvisited-shift_indexes_in_addends-loop-i l × ShiftedTrees addend_of l.by l.initial.parts.items l.i l.parts.items

abbrev pub invariant-shift_indexes_in_multipliers-loop-i : goal.invariant-shift_indexes_in_multipliers-loop-i
invariant-shift_indexes_in_multipliers-loop-i l = goal.unvisited-shift_indexes_in_multipliers-loop-i l × ShiftedTrees multiplier_of l.by l.initial.parts.items l.i l.parts.items

abbrev pub invariant-shift_indexes_in_selectors-loop-i : goal.invariant-shift_indexes_in_selectors-loop-i
invariant-shift_indexes_in_selectors-loop-i l = goal.unvisited-shift_indexes_in_selectors-loop-i l × ShiftedTrees selector_of l.by l.initial.parts.items l.i l.parts.items
