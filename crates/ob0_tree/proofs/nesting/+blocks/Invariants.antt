use Rattle.ob0_tree.specs.View.{procedure_of}
use Rattle.ob0_tree.proofs.Deepest.{Deepest}
use Rattle.ob0_tree.proofs.nesting.+blocks.Given as goal

abbrev pub invariant-block_nesting-loop-p : goal.invariant-block_nesting-loop-p
invariant-block_nesting-loop-p l = Deepest procedure_of l.initial.procedures l.p-items l.p-index l.procedures
