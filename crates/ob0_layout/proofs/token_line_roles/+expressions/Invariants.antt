use Rattle.ob0_tree.specs.View.{addend_of, multiplier_of, selector_of}
use Rattle.ob0_layout.proofs.Walks.{Walking}
use Rattle.ob0_layout.proofs.token_line_roles.+expressions.Given as goal

abbrev pub invariant-add_designator_roles-loop-s : goal.invariant-add_designator_roles-loop-s
invariant-add_designator_roles-loop-s l = Walking selector_of 0 l.initial.out.items l.s-items l.s-index l.out.items

abbrev pub invariant-add_simple_expression_roles-loop-addend : goal.invariant-add_simple_expression_roles-loop-addend
invariant-add_simple_expression_roles-loop-addend l = Walking addend_of 0 l.initial.out.items l.addend-items l.addend-index l.out.items

abbrev pub invariant-add_term_roles-loop-multiplier : goal.invariant-add_term_roles-loop-multiplier
invariant-add_term_roles-loop-multiplier l = Walking multiplier_of 0 l.initial.out.items l.multiplier-items l.multiplier-index l.out.items
