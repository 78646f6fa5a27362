use Rattle.ob0_tree.specs.declared.tree.Role.TheVariants as role
use Rattle.ob0_tree.specs.View.{procedure_of}
use Rattle.ob0_tree.proofs.Visits.{Visiting}
use Rattle.ob0_tree.proofs.identifier_walk.+blocks.Given as goal

abbrev pub invariant-walk_block-loop-p : goal.invariant-walk_block-loop-p
invariant-walk_block-loop-p g l = Visiting g.V.Visitor.state_after_one_identifier procedure_of role.DeclaringName l.initial.visitor l.p-items l.p-index l.visitor
