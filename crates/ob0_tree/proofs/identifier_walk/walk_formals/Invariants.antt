use Rattle.ob0_tree.specs.declared.tree.Role.TheVariants as role
use Rattle.ob0_tree.specs.View.{parameter_section_after_semicolon_of}
use Rattle.ob0_tree.proofs.Visits.{Visiting}
use Rattle.ob0_tree.proofs.identifier_walk.walk_formals.Given as goal

abbrev pub invariant-loop-s : goal.invariant-loop-s
invariant-loop-s g l = Visiting g.V.Visitor.state_after_one_identifier parameter_section_after_semicolon_of role.DeclaringName l.initial.visitor l.s-items l.s-index l.visitor
