use Rattle.std.proofs.Common.{false, map}
use Rattle.ob0_tree.specs.View.{expression_of}
use Rattle.ob0_types_check.specs.StatementFaults.{untyped_argument_faults}
use Rattle.ob0_types_check.specs.CheckerViews.{facts_in}
use Rattle.ob0_types_check.proofs.Listed.{EachSoFar}
use Rattle.ob0_types_check.proofs.reporting.checker_state.CheckerState.report_untyped_arguments.Given as goal

abbrev pub invariant-loop-e : goal.invariant-loop-e
invariant-loop-e l =
    EachSoFar (λ es. untyped_argument_faults (facts_in l.self false) (map expression_of es)) l.initial.faults.items l.arguments l.e-index l.faults.items
