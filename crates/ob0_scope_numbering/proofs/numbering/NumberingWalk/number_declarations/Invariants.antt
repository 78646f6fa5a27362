use Rattle.ob0_scope_numbering.specs.IdentifierWalk.{number_declarations}
use Rattle.ob0_scope_numbering.proofs.Going.{Going}
use Rattle.ob0_scope_numbering.proofs.numbering.NumberingWalk.number_declarations.Given as goal

abbrev pub invariant-loop-name : goal.invariant-loop-name
invariant-loop-name l = Going number_declarations l.name-items l.initial.self l.name-index l.self
