use Rattle.ob0_tree.specs.declared.tree.Role.TheVariants as role
use Rattle.ob0_tree.specs.View.{argument_after_comma_of}
use Rattle.ob0_tree.proofs.Visits.{Visiting}
use Rattle.ob0_tree.proofs.identifier_walk.walk_arguments.Given as goal

abbrev pub invariant-loop-e : goal.invariant-loop-e
invariant-loop-e g l = Visiting g.V.Visitor.state_after_one_identifier argument_after_comma_of role.DeclaringName l.initial.visitor l.e-items l.e-index l.visitor
