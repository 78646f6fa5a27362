use Rattle.ob0_tree.specs.declared.tree.Role.TheVariants as role
use Rattle.ob0_tree.specs.View.{field_group_after_semicolon_of}
use Rattle.ob0_tree.proofs.Visits.{Visiting}
use Rattle.ob0_tree.proofs.identifier_walk.+types.Given as goal

abbrev pub invariant-walk_record_type-loop-group : goal.invariant-walk_record_type-loop-group
invariant-walk_record_type-loop-group g l = Visiting g.V.Visitor.state_after_one_identifier field_group_after_semicolon_of role.DeclaringName l.initial.visitor l.group-items l.group-index l.visitor
