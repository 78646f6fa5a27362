use Rattle.std.proofs.Common.{map, take}
use Rattle.ob0_tree.specs.TokenIndexLeaves.{token_text_at}
use Rattle.ob0_language_names.specs.ConsistentNames.{is_among}
use Rattle.ob0_scope.proofs.Checking.{Seeing}
use Rattle.ob0_scope.proofs.declaration_checks.DeclarationFaultCollector.report_duplicates_pairwise.Given as goal

abbrev pub invariant-loop-index : goal.invariant-loop-index
invariant-loop-index l = Seeing (token_text_at l.tokens) l.names l.initial.self l.index (λ x. is_among x (map (token_text_at l.tokens) (take l.index l.names))) l.self
