use Rattle.ob0_tree.specs.declared.tree.Role.TheVariants as role
use Rattle.ob0_tree.specs.View.{type_declaration_of}
use Rattle.ob0_tree.proofs.Visits.{Visiting}
use Rattle.ob0_tree.proofs.identifier_walk.walk_type_declarations.Given as goal

abbrev pub invariant-loop-d : goal.invariant-loop-d
invariant-loop-d g l = Visiting g.V.Visitor.state_after_one_identifier type_declaration_of role.DeclaringName l.initial.visitor l.d-items l.d-index l.visitor
