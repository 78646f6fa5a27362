use Rattle.ob0_tree.specs.View.{variable_declaration_of}
use Rattle.ob0_language_types.specs.Declarations.{variables_constructor_count}
use Rattle.ob0_types_fields.proofs.written_type_fields.visit_variable_section_fields.Given as goal
use Rattle.ob0_types_fields.specs.IdentifierOwners.{section_identifiers}
use Rattle.ob0_types_fields.proofs.FieldVisits.{OverDeclarations}

abbrev pub invariant-loop-d : goal.invariant-loop-d
invariant-loop-d g l = OverDeclarations g.V.FieldVisitor.state_after_one_field variable_declaration_of section_identifiers variables_constructor_count l.initial.word_count l.initial.visitor l.d-items l.d-index l.word_count l.visitor
