use Rattle.std.proofs.Common.{drop}
use Rattle.ob0_tree.specs.View.{items_of, procedure_of}
use Rattle.ob0_scope_table.specs.LabelledTrees.{tree_with_labels}
use Rattle.ob0_run_lowering.specs.Blocks.{LowersProcedures}
use Rattle.ob0_run_lowering.proofs.programs.Lowering.+blocks.Given as goal

abbrev pub invariant-lower_block-loop-p : goal.invariant-lower_block-loop-p
invariant-lower_block-loop-p l = record {
  goes : LowersProcedures l.context.types.now l.initial.self l.self l.own.depth (tree_with_labels l.context.resolved.now (items_of procedure_of l.p-items)) (tree_with_labels l.context.resolved.now (items_of procedure_of (drop l.p-index l.p-items)));
}
