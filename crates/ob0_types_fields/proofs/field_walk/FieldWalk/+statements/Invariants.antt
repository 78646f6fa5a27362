use Rattle.ob0_tree.specs.View.{statement_after_semicolon_of, elsif_of}
use Rattle.ob0_types_fields.proofs.field_walk.FieldWalk.+statements.Given as goal
use Rattle.ob0_types_fields.specs.FieldWalks.{field_walk_meanings}
use Rattle.ob0_types_fields.proofs.FieldVisits.{Visiting}

abbrev pub invariant-visit_sequence_fields-loop-s : goal.invariant-visit_sequence_fields-loop-s
invariant-visit_sequence_fields-loop-s g l = Visiting g.V.FieldVisitor.state_after_one_field statement_after_semicolon_of (field_walk_meanings l.self) l.initial.visitor l.s-items l.s-index l.visitor

abbrev pub invariant-visit_elsif_fields-loop-e : goal.invariant-visit_elsif_fields-loop-e
invariant-visit_elsif_fields-loop-e g l = Visiting g.V.FieldVisitor.state_after_one_field elsif_of (field_walk_meanings l.self) l.initial.visitor l.e-items l.e-index l.visitor
