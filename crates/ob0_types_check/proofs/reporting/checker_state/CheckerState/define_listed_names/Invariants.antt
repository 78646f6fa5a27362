use Rattle.ob0_types_check.specs.TypesAndMeanings.{a_variable}
use Rattle.ob0_types_check.specs.CheckerViews.{declarations_in_state}
use Rattle.ob0_types_check.proofs.ReportedDeclarations.{DefinedSoFar}
use Rattle.ob0_types_check.proofs.reporting.checker_state.CheckerState.define_listed_names.Given as goal

abbrev pub invariant-loop-name : goal.invariant-loop-name
invariant-loop-name l = DefinedSoFar (a_variable l.of) (declarations_in_state l.initial.self) l.name-items l.name-index (declarations_in_state l.self)
