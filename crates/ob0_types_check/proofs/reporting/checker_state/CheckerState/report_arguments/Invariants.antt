use Rattle.std.proofs.Common.{false, length, map}
use Rattle.ob0_tree.specs.View.{expression_of}
use Rattle.ob0_types_check.specs.StatementFaults.{faults_of_arguments}
use Rattle.ob0_types_check.specs.CheckerViews.{facts_in, known_parameter_of}
use Rattle.ob0_types_check.proofs.Listed.{PairSoFar}
use Rattle.ob0_types_check.proofs.reporting.checker_state.CheckerState.report_arguments.Given as goal

abbrev pub invariant-loop-formal : goal.invariant-loop-formal
invariant-loop-formal l =
    PairSoFar (λ fs es. faults_of_arguments (facts_in l.self false) (map known_parameter_of fs) (map expression_of es)) l.initial.faults.items l.formals l.arguments (length l.yielded) l.faults.items
