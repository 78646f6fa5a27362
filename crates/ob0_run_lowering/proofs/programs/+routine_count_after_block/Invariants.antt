use Rattle.std.proofs.Common.{◌≡◌, drop}
use Rattle.ob0_tree.specs.View.{items_of, procedure_of}
use Rattle.ob0_scope_table.specs.LabelledTrees.{tree_with_labels}
use Rattle.ob0_scope_table.specs.Resolution.{Resolution}
use Rattle.ob0_run_lowering.specs.Blocks.{count_after_procedures}
use Rattle.ob0_run_lowering.proofs.programs.+routine_count_after_block.Given as goal

abbrev pub invariant-loop-p : goal.invariant-loop-p
invariant-loop-p l = record {
  counted : (r : Resolution) → count_after_procedures l.after (tree_with_labels r (items_of procedure_of (drop l.p-index l.p-items))) ≡ count_after_procedures l.fn.count (tree_with_labels r (items_of procedure_of l.p-items));
}
