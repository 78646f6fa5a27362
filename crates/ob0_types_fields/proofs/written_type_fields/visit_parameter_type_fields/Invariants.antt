use Rattle.ob0_tree.specs.View.{parameter_section_after_semicolon_of}
use Rattle.ob0_language_types.specs.Declarations.{formals_constructor_count}
use Rattle.ob0_types_fields.proofs.written_type_fields.visit_parameter_type_fields.Given as goal
use Rattle.ob0_types_fields.specs.IdentifierOwners.{section_identifiers}
use Rattle.ob0_types_fields.proofs.FieldVisits.{OverDeclarations}

abbrev pub invariant-loop-d : goal.invariant-loop-d
invariant-loop-d g l = OverDeclarations g.V.FieldVisitor.state_after_one_field parameter_section_after_semicolon_of section_identifiers formals_constructor_count l.initial.word_count l.initial.visitor l.d-items l.d-index l.word_count l.visitor
