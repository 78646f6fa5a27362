use Rattle.ob0_scope_table.specs.DuplicatesAndEndNames.{duplicate_field_faults_in_types}
use Rattle.ob0_tree.specs.TokenIndexLeaves.{token_text_at}
use Rattle.ob0_tree.specs.View.{items_of, type_declaration_of}
use Rattle.ob0_scope.proofs.Checking.{Gathering}
use Rattle.ob0_scope.proofs.declaration_checks.DeclarationFaultCollector.report_duplicate_fields_in_type_section.Given as goal

abbrev pub invariant-loop-t : goal.invariant-loop-t
invariant-loop-t l = Gathering (λ xs. duplicate_field_faults_in_types (token_text_at l.tokens) (items_of type_declaration_of xs)) l.t-items l.initial.self l.t-index l.self
