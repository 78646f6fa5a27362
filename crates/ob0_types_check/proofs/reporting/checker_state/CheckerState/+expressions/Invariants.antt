use Rattle.ob0_tree.specs.View.{addend_of, multiplier_of, selector_of}
use Rattle.ob0_types_check.specs.ExpressionFaults.{report_on_addends, report_on_multipliers, report_on_selectors}
use Rattle.ob0_types_check.specs.CheckerViews.{facts_in, operand_of}
use Rattle.ob0_types_check.proofs.Chains.{Chained}
use Rattle.ob0_types_check.proofs.reporting.checker_state.CheckerState.+expressions.Given as goal

abbrev pub invariant-check_designator_selectors-loop-selector : goal.invariant-check_designator_selectors-loop-selector
invariant-check_designator_selectors-loop-selector l =
    Chained (report_on_selectors (facts_in l.self l.only_constants)) selector_of l.initial.faults.items (operand_of l.initial.so_far) l.selector-items l.selector-index l.faults.items (operand_of l.so_far)

abbrev pub invariant-check_simple_expression-loop-addend : goal.invariant-check_simple_expression-loop-addend
invariant-check_simple_expression-loop-addend l =
    Chained (report_on_addends (facts_in l.self l.only_constants)) addend_of l.initial.faults.items (operand_of l.initial.so_far) l.addend-items l.addend-index l.faults.items (operand_of l.so_far)

abbrev pub invariant-check_term-loop-multiplier : goal.invariant-check_term-loop-multiplier
invariant-check_term-loop-multiplier l =
    Chained (report_on_multipliers (facts_in l.self l.only_constants)) multiplier_of l.initial.faults.items (operand_of l.initial.so_far) l.multiplier-items l.multiplier-index l.faults.items (operand_of l.so_far)
