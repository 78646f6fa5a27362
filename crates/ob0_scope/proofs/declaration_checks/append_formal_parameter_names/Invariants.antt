use Rattle.ob0_language_names.specs.BlockParts.{formal_parameter_names}
use Rattle.ob0_tree.specs.View.{items_of, parameter_section_after_semicolon_of}
use Rattle.ob0_scope.proofs.Checking.{Gathering}
use Rattle.ob0_scope.proofs.declaration_checks.append_formal_parameter_names.Given as goal

abbrev pub invariant-loop-s : goal.invariant-loop-s
invariant-loop-s l = Gathering (λ xs. formal_parameter_names (items_of parameter_section_after_semicolon_of xs)) l.s-items l.initial.out.items l.s-index l.out.items
