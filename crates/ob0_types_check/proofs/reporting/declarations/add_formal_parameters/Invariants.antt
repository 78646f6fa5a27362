use Rattle.ob0_types_check.proofs.Listed.{RepeatedSoFar}
use Rattle.ob0_types_check.proofs.reporting.declarations.add_formal_parameters.Given as goal

abbrev pub invariant-loop-name : goal.invariant-loop-name
invariant-loop-name l = RepeatedSoFar l.formal l.initial.formals.items l._name-items l._name-index l.formals.items
