use Rattle.ob0_language_names.specs.BlockParts.{constant_names}
use Rattle.ob0_tree.specs.View.{items_of, constant_declaration_of}
use Rattle.ob0_scope.proofs.Checking.{Gathering}
use Rattle.ob0_scope.proofs.declaration_checks.append_constant_names.Given as goal

abbrev pub invariant-loop-c : goal.invariant-loop-c
invariant-loop-c l = Gathering (λ xs. constant_names (items_of constant_declaration_of xs)) l.c-items l.initial.out.items l.c-index l.out.items
