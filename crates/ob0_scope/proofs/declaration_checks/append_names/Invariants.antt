use Rattle.ob0_scope.proofs.Checking.{Gathering}
use Rattle.ob0_scope.proofs.declaration_checks.append_names.Given as goal

abbrev pub invariant-loop-name : goal.invariant-loop-name
invariant-loop-name l = Gathering (λ xs. xs) l.name-items l.initial.out.items l.name-index l.out.items
