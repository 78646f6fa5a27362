use Rattle.ob0_tree.specs.TokenIndexLeaves.{token_text_at}
use Rattle.ob0_scope.proofs.Checking.{Seeing, has}
use Rattle.ob0_scope.proofs.declaration_checks.DeclarationFaultCollector.report_duplicates_by_set.Given as goal

abbrev pub invariant-loop-name : goal.invariant-loop-name
invariant-loop-name l = Seeing (token_text_at l.tokens) l.names l.initial.self l.name-index (has l.seen) l.self
