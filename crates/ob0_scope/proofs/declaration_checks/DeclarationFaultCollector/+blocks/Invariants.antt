use Rattle.ob0_scope_table.specs.DuplicatesAndEndNames.{procedure_list_declaration_faults}
use Rattle.ob0_tree.specs.TokenIndexLeaves.{token_text_at}
use Rattle.ob0_tree.specs.View.{items_of, procedure_of}
use Rattle.ob0_scope.proofs.Checking.{Gathering}
use Rattle.ob0_scope.proofs.declaration_checks.DeclarationFaultCollector.+blocks.Given as goal

abbrev pub invariant-check_block-loop-p : goal.invariant-check_block-loop-p
invariant-check_block-loop-p l = Gathering (λ xs. procedure_list_declaration_faults (token_text_at l.tokens) (items_of procedure_of xs)) l.p-items l.initial.self l.p-index l.self
