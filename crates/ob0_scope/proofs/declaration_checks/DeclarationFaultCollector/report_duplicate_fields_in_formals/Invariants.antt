use Rattle.ob0_scope_table.specs.DuplicatesAndEndNames.{duplicate_field_faults_in_formals}
use Rattle.ob0_tree.specs.TokenIndexLeaves.{token_text_at}
use Rattle.ob0_tree.specs.View.{items_of, parameter_section_after_semicolon_of}
use Rattle.ob0_scope.proofs.Checking.{Gathering}
use Rattle.ob0_scope.proofs.declaration_checks.DeclarationFaultCollector.report_duplicate_fields_in_formals.Given as goal

abbrev pub invariant-loop-s : goal.invariant-loop-s
invariant-loop-s l = Gathering (λ xs. duplicate_field_faults_in_formals (token_text_at l.tokens) (items_of parameter_section_after_semicolon_of xs)) l.s-items l.initial.self l.s-index l.self
