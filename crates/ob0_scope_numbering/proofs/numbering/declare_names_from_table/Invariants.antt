use Rattle.ob0_scope_numbering.proofs.Declaring.{declaring}
use Rattle.ob0_scope_numbering.proofs.Going.{Going}
use Rattle.ob0_scope_numbering.proofs.numbering.declare_names_from_table.Given as goal

abbrev pub invariant-loop-name : goal.invariant-loop-name
invariant-loop-name l = Going (declaring l.tokens l.ordinals) l.names l.initial.visible l.name-index l.visible
