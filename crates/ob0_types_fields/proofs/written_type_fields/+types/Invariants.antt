use Rattle.ob0_tree.specs.View.{field_group_after_semicolon_of}
use Rattle.ob0_language_types.specs.Typing.{later_groups_constructor_count}
use Rattle.ob0_types_fields.proofs.written_type_fields.+types.Given as goal
use Rattle.ob0_types_fields.specs.IdentifierOwners.{group_identifiers}
use Rattle.ob0_types_fields.proofs.FieldVisits.{OverDeclarations}

abbrev pub invariant-visit_record_fields-loop-group : goal.invariant-visit_record_fields-loop-group
invariant-visit_record_fields-loop-group g l =
    OverDeclarations g.V.FieldVisitor.state_after_one_field field_group_after_semicolon_of (group_identifiers l.ordinal) later_groups_constructor_count l.initial.word_count l.initial.visitor l.group-items l.group-index l.word_count l.visitor
