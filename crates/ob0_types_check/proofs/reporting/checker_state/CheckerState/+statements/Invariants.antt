use Rattle.std.proofs.Common.{false}
use Rattle.ob0_tree.specs.View.{elsif_of, items_of, sequence_of_list}
use Rattle.ob0_types_check.specs.StatementFaults.{elsif_faults, sequence_faults}
use Rattle.ob0_types_check.specs.CheckerViews.{facts_in}
use Rattle.ob0_types_check.proofs.Listed.{EachSoFar}
use Rattle.ob0_types_check.proofs.reporting.checker_state.CheckerState.+statements.Given as goal

abbrev pub invariant-report_sequence-loop-s : goal.invariant-report_sequence-loop-s
invariant-report_sequence-loop-s l =
    EachSoFar (λ ss. sequence_faults (facts_in l.self false) (sequence_of_list ss)) l.initial.faults.items l.s-items l.s-index l.faults.items

abbrev pub invariant-report_elsifs-loop-part : goal.invariant-report_elsifs-loop-part
invariant-report_elsifs-loop-part l =
    EachSoFar (λ es. elsif_faults (facts_in l.self false) (items_of elsif_of es)) l.initial.faults.items l.part-items l.part-index l.faults.items
