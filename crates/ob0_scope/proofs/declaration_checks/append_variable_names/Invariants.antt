use Rattle.ob0_language_names.specs.BlockParts.{variable_names}
use Rattle.ob0_tree.specs.View.{items_of, variable_declaration_of}
use Rattle.ob0_scope.proofs.Checking.{Gathering}
use Rattle.ob0_scope.proofs.declaration_checks.append_variable_names.Given as goal

abbrev pub invariant-loop-v : goal.invariant-loop-v
invariant-loop-v l = Gathering (λ xs. variable_names (items_of variable_declaration_of xs)) l.v-items l.initial.out.items l.v-index l.out.items
