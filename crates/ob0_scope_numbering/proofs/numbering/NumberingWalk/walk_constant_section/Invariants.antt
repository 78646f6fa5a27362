use Rattle.ob0_tree.specs.View.{items_of, constant_declaration_of}
use Rattle.ob0_scope_numbering.specs.IdentifierWalk.{visit_constants}
use Rattle.ob0_scope_numbering.proofs.Going.{Going}
use Rattle.ob0_scope_numbering.proofs.numbering.NumberingWalk.walk_constant_section.Given as goal

abbrev pub invariant-loop-c : goal.invariant-loop-c
invariant-loop-c l = Going (λ xs. visit_constants (items_of constant_declaration_of xs)) l.c-items l.initial.self l.c-index l.self
