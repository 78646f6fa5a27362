use Rattle.ob0_tree.specs.View.{procedure_of}
use Rattle.ob0_language_types.specs.Declarations.{procedure_list_constructor_count}
use Rattle.ob0_types_fields.proofs.declared_block_fields.+blocks.Given as goal
use Rattle.ob0_types_fields.specs.FieldIdentifiers.{identifiers_declared_in_procedures}
use Rattle.ob0_types_fields.proofs.FieldVisits.{OverDeclarations}

abbrev pub invariant-visit_fields_declared_in_block-loop-p : goal.invariant-visit_fields_declared_in_block-loop-p
invariant-visit_fields_declared_in_block-loop-p g l =
    OverDeclarations g.V.FieldVisitor.state_after_one_field procedure_of identifiers_declared_in_procedures procedure_list_constructor_count l.initial.word_count l.initial.visitor l.p-items l.p-index l.word_count l.visitor
