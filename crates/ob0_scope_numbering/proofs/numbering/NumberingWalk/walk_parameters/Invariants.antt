use Rattle.ob0_tree.specs.View.{items_of, parameter_section_after_semicolon_of}
use Rattle.ob0_scope_numbering.specs.IdentifierWalk.{visit_parameter_sections}
use Rattle.ob0_scope_numbering.proofs.Going.{Going}
use Rattle.ob0_scope_numbering.proofs.numbering.NumberingWalk.walk_parameters.Given as goal

abbrev pub invariant-loop-s : goal.invariant-loop-s
invariant-loop-s l = Going (λ xs. visit_parameter_sections (items_of parameter_section_after_semicolon_of xs)) l.s-items l.initial.self l.s-index l.self
