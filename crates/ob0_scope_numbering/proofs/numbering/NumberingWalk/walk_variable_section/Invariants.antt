use Rattle.ob0_tree.specs.View.{items_of, variable_declaration_of}
use Rattle.ob0_scope_numbering.specs.IdentifierWalk.{visit_variables}
use Rattle.ob0_scope_numbering.proofs.Going.{Going}
use Rattle.ob0_scope_numbering.proofs.numbering.NumberingWalk.walk_variable_section.Given as goal

abbrev pub invariant-loop-v : goal.invariant-loop-v
invariant-loop-v l = Going (λ xs. visit_variables (items_of variable_declaration_of xs)) l.v-items l.initial.self l.v-index l.self
