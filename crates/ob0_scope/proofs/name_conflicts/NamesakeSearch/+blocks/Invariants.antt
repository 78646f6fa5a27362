use Rattle.ob0_tree.specs.View.{items_of, procedure_of}
use Rattle.ob0_scope.specs.NamesakeSearches.{namesake_in_procedure_list}
use Rattle.ob0_scope.proofs.Finding.{Finding}
use Rattle.ob0_scope.proofs.name_conflicts.NamesakeSearch.+blocks.Given as goal

abbrev pub invariant-find_namesake_in_block-loop-p : goal.invariant-find_namesake_in_block-loop-p
invariant-find_namesake_in_block-loop-p l = Finding (λ xs. namesake_in_procedure_list l.self (items_of procedure_of xs)) l.p-items l.initial.found l.p-index l.found
