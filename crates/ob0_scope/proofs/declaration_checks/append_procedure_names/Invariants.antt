use Rattle.ob0_language_names.specs.ConsistentNames.{procedure_names}
use Rattle.ob0_tree.specs.View.{items_of, procedure_of}
use Rattle.ob0_scope.proofs.Checking.{Gathering}
use Rattle.ob0_scope.proofs.declaration_checks.append_procedure_names.Given as goal

abbrev pub invariant-loop-p : goal.invariant-loop-p
invariant-loop-p l = Gathering (λ xs. procedure_names (items_of procedure_of xs)) l.procedures l.initial.out.items l.p-index l.out.items
