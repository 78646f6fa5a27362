use Rattle.ob0_tree.specs.View.{items_of, procedure_of}
use Rattle.ob0_scope_numbering.specs.IdentifierWalk.{visit_procedure_list}
use Rattle.ob0_scope_numbering.proofs.Going.{Going}
use Rattle.ob0_scope_numbering.proofs.numbering.NumberingWalk.+blocks.Given as goal

abbrev pub invariant-walk_block-loop-p : goal.invariant-walk_block-loop-p
invariant-walk_block-loop-p l = Going (λ xs. visit_procedure_list (items_of procedure_of xs)) l.p-items l.initial.self l.p-index l.self
