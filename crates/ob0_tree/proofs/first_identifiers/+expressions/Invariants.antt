use Rattle.ob0_tree.specs.View.{addend_of, multiplier_of}
use Rattle.ob0_tree.proofs.Firsts.{Seeking}
use Rattle.ob0_tree.proofs.first_identifiers.+expressions.Given as goal

abbrev pub invariant-first_identifier_in_simple_expression-loop-addend : goal.invariant-first_identifier_in_simple_expression-loop-addend
invariant-first_identifier_in_simple_expression-loop-addend l = Seeking addend_of l.addend-items l.addend-index

abbrev pub invariant-first_identifier_in_term-loop-multiplier : goal.invariant-first_identifier_in_term-loop-multiplier
invariant-first_identifier_in_term-loop-multiplier l = Seeking multiplier_of l.multiplier-items l.multiplier-index
