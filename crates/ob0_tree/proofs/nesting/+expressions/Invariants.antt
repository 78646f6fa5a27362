use Rattle.ob0_tree.specs.View.{addend_of, multiplier_of, selector_of}
use Rattle.ob0_tree.proofs.Deepest.{Deepest}
use Rattle.ob0_tree.proofs.nesting.+expressions.Given as goal

abbrev pub invariant-designator_nesting-loop-s : goal.invariant-designator_nesting-loop-s
invariant-designator_nesting-loop-s l = Deepest selector_of l.initial.deepest l.s-items l.s-index l.deepest

abbrev pub invariant-simple_expression_nesting-loop-addend : goal.invariant-simple_expression_nesting-loop-addend
invariant-simple_expression_nesting-loop-addend l = Deepest addend_of l.initial.deepest l.addend-items l.addend-index l.deepest

abbrev pub invariant-term_nesting-loop-multiplier : goal.invariant-term_nesting-loop-multiplier
invariant-term_nesting-loop-multiplier l = Deepest multiplier_of l.initial.deepest l.multiplier-items l.multiplier-index l.deepest
