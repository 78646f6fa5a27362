use Rattle.ob0_language_names.specs.ConsistentNames.{field_names_after_first_group}
use Rattle.ob0_scope_table.specs.DuplicatesAndEndNames.{duplicate_field_faults_in_further_groups}
use Rattle.ob0_tree.specs.TokenIndexLeaves.{token_text_at}
use Rattle.ob0_tree.specs.View.{items_of, field_group_after_semicolon_of}
use Rattle.ob0_scope.proofs.Checking.{Gathering}
use Rattle.ob0_scope.proofs.declaration_checks.DeclarationFaultCollector.+types.Given as goal

abbrev pub invariant-report_duplicate_fields_in_record-loop-group : goal.invariant-report_duplicate_fields_in_record-loop-group
invariant-report_duplicate_fields_in_record-loop-group l = Gathering (λ xs. field_names_after_first_group (items_of field_group_after_semicolon_of xs)) l.group-items l.initial.names.items l.group-index l.names.items

abbrev pub invariant-report_duplicate_fields_in_record-loop-group-2 : goal.invariant-report_duplicate_fields_in_record-loop-group-2
invariant-report_duplicate_fields_in_record-loop-group-2 l = Gathering (λ xs. duplicate_field_faults_in_further_groups (token_text_at l.tokens) (items_of field_group_after_semicolon_of xs)) l.group-items l.initial.self l.group-index l.self
