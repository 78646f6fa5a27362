use Rattle.ob0_types_fields.proofs.written_type_fields.visit_named_fields.Given as goal
use Rattle.ob0_types_fields.specs.IdentifierOwners.{owner}
use Rattle.ob0_types_fields.proofs.FieldVisits.{OverNames}

abbrev pub invariant-loop-name : goal.invariant-loop-name
invariant-loop-name g l = OverNames g.V.FieldVisitor.state_after_one_field l.owner l.initial.visitor l.name-items l.name-index l.visitor
