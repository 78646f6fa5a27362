use Rattle.ob0_scope_numbering.proofs.Declaring.{Showing}
use Rattle.ob0_scope_numbering.proofs.numbering.NumberingWalk.make_names_visible_from_index.Given as goal

abbrev pub invariant-loop-index : goal.invariant-loop-index
invariant-loop-index l = Showing l.first l.initial.self l.index l.self
