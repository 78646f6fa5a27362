use Rattle.ob0_language_names.specs.BlockParts.{declared_type_names}
use Rattle.ob0_tree.specs.View.{items_of, type_declaration_of}
use Rattle.ob0_scope.proofs.Checking.{Gathering}
use Rattle.ob0_scope.proofs.declaration_checks.append_type_names.Given as goal

abbrev pub invariant-loop-t : goal.invariant-loop-t
invariant-loop-t l = Gathering (λ xs. declared_type_names (items_of type_declaration_of xs)) l.t-items l.initial.out.items l.t-index l.out.items
