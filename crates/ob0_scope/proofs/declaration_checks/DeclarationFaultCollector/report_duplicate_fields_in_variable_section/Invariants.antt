use Rattle.ob0_scope_table.specs.DuplicatesAndEndNames.{duplicate_field_faults_in_variables}
use Rattle.ob0_tree.specs.TokenIndexLeaves.{token_text_at}
use Rattle.ob0_tree.specs.View.{items_of, variable_declaration_of}
use Rattle.ob0_scope.proofs.Checking.{Gathering}
use Rattle.ob0_scope.proofs.declaration_checks.DeclarationFaultCollector.report_duplicate_fields_in_variable_section.Given as goal

abbrev pub invariant-loop-v : goal.invariant-loop-v
invariant-loop-v l = Gathering (λ xs. duplicate_field_faults_in_variables (token_text_at l.tokens) (items_of variable_declaration_of xs)) l.v-items l.initial.self l.v-index l.self
