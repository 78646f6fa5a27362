use Rattle.ob0_tree.specs.View.{procedure_of}
use Rattle.ob0_language_types.specs.Declarations.{procedure_list_constructor_count}
use Rattle.ob0_types_fields.proofs.field_walk.FieldWalk.+blocks.Given as goal
use Rattle.ob0_types_fields.specs.IdentifierOwners.{procedures_identifiers}
use Rattle.ob0_types_fields.specs.FieldWalks.{field_walk_meanings}
use Rattle.ob0_types_fields.proofs.FieldVisits.{OverDeclarations}

abbrev pub invariant-visit_block_fields-loop-p : goal.invariant-visit_block_fields-loop-p
invariant-visit_block_fields-loop-p g l =
    OverDeclarations g.V.FieldVisitor.state_after_one_field procedure_of (procedures_identifiers (field_walk_meanings l.self)) procedure_list_constructor_count l.initial.word_count l.initial.visitor l.p-items l.p-index l.word_count l.visitor
