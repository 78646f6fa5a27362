use Rattle.ob0_tree.specs.View.{items_of, type_declaration_of}
use Rattle.ob0_scope_numbering.specs.IdentifierWalk.{visit_types}
use Rattle.ob0_scope_numbering.proofs.Going.{Going}
use Rattle.ob0_scope_numbering.proofs.numbering.NumberingWalk.walk_type_section.Given as goal

abbrev pub invariant-loop-t : goal.invariant-loop-t
invariant-loop-t l = Going (λ xs. visit_types (items_of type_declaration_of xs)) l.t-items l.initial.self l.t-index l.self
