use Rattle.ob0_tree.specs.declared.tree.Role.TheVariants as role
use Rattle.ob0_tree.specs.View.{variable_declaration_of}
use Rattle.ob0_tree.proofs.Visits.{Visiting}
use Rattle.ob0_tree.proofs.identifier_walk.walk_variable_declarations.Given as goal

abbrev pub invariant-loop-v : goal.invariant-loop-v
invariant-loop-v g l = Visiting g.V.Visitor.state_after_one_identifier variable_declaration_of role.DeclaringName l.initial.visitor l.v-items l.v-index l.visitor
