use Rattle.std.proofs.Common.{◌∷◌}
use Rattle.ob0_tree.specs.View.{expression_of, sequence_of_list}
use Rattle.ob0_tree.specs.declared.tree.If.{out-If}
use Rattle.ob0_scope_table.specs.LabelledTrees.{tree_with_labels}
use Rattle.ob0_run_lowering.proofs.Made.{BranchesMade, SequenceMade}
use Rattle.ob0_run_lowering.proofs.statements.+statements.Given as goal

abbrev pub invariant-lower_if-loop-part : goal.invariant-lower_if-loop-part
invariant-lower_if-loop-part l =
    BranchesMade l.scene l.scene.resolved.now (tree_with_labels l.scene.resolved.now (expression_of (out-If l.i).condition)) (tree_with_labels l.scene.resolved.now (sequence_of_list (out-If l.i).then.items)) l.part-items l.part-index
    (record { condition = l.first; body = l.then } ∷ l.others.items)

abbrev pub invariant-lower_sequence-loop-s : goal.invariant-lower_sequence-loop-s
invariant-lower_sequence-loop-s l = SequenceMade l.scene l.scene.resolved.now l.s-items l.s-index l.made.items
