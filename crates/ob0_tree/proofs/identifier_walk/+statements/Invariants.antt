use Rattle.ob0_tree.specs.declared.tree.Role.TheVariants as role
use Rattle.ob0_tree.specs.View.{statement_after_semicolon_of, elsif_of}
use Rattle.ob0_tree.proofs.Visits.{Visiting}
use Rattle.ob0_tree.proofs.identifier_walk.+statements.Given as goal

abbrev pub invariant-walk_sequence-loop-s : goal.invariant-walk_sequence-loop-s
invariant-walk_sequence-loop-s g l = Visiting g.V.Visitor.state_after_one_identifier statement_after_semicolon_of role.DeclaringName l.initial.visitor l.s-items l.s-index l.visitor

abbrev pub invariant-walk_elsifs-loop-e : goal.invariant-walk_elsifs-loop-e
invariant-walk_elsifs-loop-e g l = Visiting g.V.Visitor.state_after_one_identifier elsif_of role.DeclaringName l.initial.visitor l.e-items l.e-index l.visitor
