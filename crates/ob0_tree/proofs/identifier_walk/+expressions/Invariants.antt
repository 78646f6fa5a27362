use Rattle.ob0_tree.specs.declared.tree.Role.TheVariants as role
use Rattle.ob0_tree.specs.View.{addend_of, multiplier_of, selector_of}
use Rattle.ob0_tree.proofs.Visits.{Visiting}
use Rattle.ob0_tree.proofs.identifier_walk.+expressions.Given as goal

abbrev pub invariant-walk_designator-loop-s : goal.invariant-walk_designator-loop-s
invariant-walk_designator-loop-s g l = Visiting g.V.Visitor.state_after_one_identifier selector_of role.DeclaringName l.initial.visitor l.s-items l.s-index l.visitor

abbrev pub invariant-walk_simple_expression-loop-addend : goal.invariant-walk_simple_expression-loop-addend
invariant-walk_simple_expression-loop-addend g l = Visiting g.V.Visitor.state_after_one_identifier addend_of role.DeclaringName l.initial.visitor l.addend-items l.addend-index l.visitor

abbrev pub invariant-walk_term-loop-multiplier : goal.invariant-walk_term-loop-multiplier
invariant-walk_term-loop-multiplier g l = Visiting g.V.Visitor.state_after_one_identifier multiplier_of role.DeclaringName l.initial.visitor l.multiplier-items l.multiplier-index l.visitor
