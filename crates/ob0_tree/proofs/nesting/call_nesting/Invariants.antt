use Rattle.ob0_tree.specs.View.{argument_after_comma_of}
use Rattle.ob0_tree.proofs.Deepest.{Deepest}
use Rattle.ob0_tree.proofs.nesting.call_nesting.Given as goal

abbrev pub invariant-loop-e : goal.invariant-loop-e
invariant-loop-e l = Deepest argument_after_comma_of l.initial.deepest l.e-items l.e-index l.deepest
