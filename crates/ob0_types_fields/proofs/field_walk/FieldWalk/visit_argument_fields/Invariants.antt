use Rattle.ob0_tree.specs.View.{argument_after_comma_of}
use Rattle.ob0_types_fields.proofs.field_walk.FieldWalk.visit_argument_fields.Given as goal
use Rattle.ob0_types_fields.specs.FieldWalks.{field_walk_meanings}
use Rattle.ob0_types_fields.proofs.FieldVisits.{Visiting}

abbrev pub invariant-loop-e : goal.invariant-loop-e
invariant-loop-e g l = Visiting g.V.FieldVisitor.state_after_one_field argument_after_comma_of (field_walk_meanings l.self) l.initial.visitor l.e-items l.e-index l.visitor
