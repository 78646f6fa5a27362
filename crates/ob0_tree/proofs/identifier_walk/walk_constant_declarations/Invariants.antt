use Rattle.ob0_tree.specs.declared.tree.Role.TheVariants as role
use Rattle.ob0_tree.specs.View.{constant_declaration_of}
use Rattle.ob0_tree.proofs.Visits.{Visiting}
use Rattle.ob0_tree.proofs.identifier_walk.walk_constant_declarations.Given as goal

abbrev pub invariant-loop-c : goal.invariant-loop-c
invariant-loop-c g l = Visiting g.V.Visitor.state_after_one_identifier constant_declaration_of role.DeclaringName l.initial.visitor l.c-items l.c-index l.visitor
