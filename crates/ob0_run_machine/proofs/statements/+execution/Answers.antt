use mir.Val.{SFits}
use Rattle.std.proofs.Math.Facts.{to_z-of_z}
use Rattle.std.proofs.Common.{arith, refl, rules, sym, ap, w32, ◌∙◌}
use Rattle.ob0_run_machine.specs.declared.code.Comparator.TheVariants.{Less}
use Rattle.ob0_run_machine.specs.declared.code.Instruction.{Increase}
use Rattle.std.proofs.lemmas.Result.{err_from_is_err_and}
use Rattle.ob0_run_machine.specs.Levels.{levels_of}
use Rattle.ob0_run_machine.specs.LoweredSyntax as lowered
use Rattle.ob0_run_machine.specs.LoweredCodeViews.{chain_of, statement_of, variable_comparison, variable_element_of, variable_increase, variable_of}
use Rattle.ob0_run_machine.proofs.Executing.{before_last, branch_taken, branches_begin, does_statement, ending_by, branches_end, branches_fail, branches_on, if_fails, if_passed, if_taken, leaving, loop_as, progress_is, repeat_begins, repeat_body_fails, repeat_bound, repeat_ends, repeat_fails, repeat_on, sequence_begins, sequence_ends, sequence_fails, sequence_on, settled, step_is, steps_as, then_last, turn_made, while_begins, while_body_fails, while_bound, while_ends, while_fails, while_on}
use Rattle.ob0_run_machine.proofs.Viewed.{if_made, repeat_made, while_made}
use Rattle.ob0_run_machine.proofs.statements.+execution.Goals as goal

pub run_conditional-returns-in_err-evaluate_condition : goal.run_conditional-returns-in_err-evaluate_condition
run_conditional-returns-in_err-evaluate_condition g t c = ending_by c.in_err-evaluate_condition.field-0.0 (err_from_is_err_and c.from_residual.result c.from_residual.ensures.1)
    (if_fails c.args.machine.now c.args.turns (levels_of c.args.level.now) c.args.i.now c.in_err-evaluate_condition.field-0.0 c.in_err-evaluate_condition.ensures)

pub run_conditional-returns-then-branch : goal.run_conditional-returns-then-branch
run_conditional-returns-then-branch g t c = if_taken c.args.turns (levels_of c.args.level.now) c.args.i.now c.run_sequence.result _ (settled c.in_ok-evaluate_condition.ensures c.if-branch.true) c.deref.ensures.value c.run_sequence.ensures

pub run_conditional-returns-then-count-eq0 : goal.run_conditional-returns-then-count-eq0
run_conditional-returns-then-count-eq0 g t c = if_passed c.args.turns (levels_of c.args.level.now) c.args.i.now c.run_sequence_unless_empty.result (settled c.in_ok-evaluate_condition.ensures c.if-branch.false)
    (branches_end {t = c.args.turns} {ls = levels_of c.args.level.now} c.run_sequence_unless_empty.result _ (branches_begin c.as_slice-others.ensures.value) (omega (arith, c.if-count-eq0.true)) c.deref-then-count-eq0.ensures.value c.run_sequence_unless_empty.ensures)

pub run_conditional-returns : goal.run_conditional-returns
run_conditional-returns g t c = if_passed c.args.turns (levels_of c.args.level.now) c.args.i.now c.run_elsifs.result (settled c.in_ok-evaluate_condition.ensures c.if-branch.false) c.run_elsifs.ensures

pub run_elsifs-loop-branch-init : goal.run_elsifs-loop-branch-init
run_elsifs-loop-branch-init g t c = branches_begin c.deref-branch-items.ensures.value

pub run_elsifs-returns-in_err-evaluate_condition : goal.run_elsifs-returns-in_err-evaluate_condition
run_elsifs-returns-in_err-evaluate_condition g t c = ending_by c.in_err-evaluate_condition.field-0.0 (err_from_is_err_and c.from_residual.result c.from_residual.ensures.1)
    (branches_fail c.in_err-evaluate_condition.field-0.0 c.branch-item.result c.loop-branch.invariant c.loop-branch-test.true c.branch-item.is c.in_err-evaluate_condition.ensures)

pub run_elsifs-returns-then-branch : goal.run_elsifs-returns-then-branch
run_elsifs-returns-then-branch g t c =
    branch_taken c.run_sequence.result _ c.branch-item.result c.loop-branch.invariant c.loop-branch-test.true c.branch-item.is (settled c.in_ok-evaluate_condition.ensures c.if-branch.true) c.deref.ensures.value c.run_sequence.ensures

pub run_elsifs-loop-branch-preserved : goal.run_elsifs-loop-branch-preserved
run_elsifs-loop-branch-preserved g t c =
    branches_on c.branch-item.result c.loop-branch.invariant c.loop-branch-test.true c.branch-item.is (settled c.in_ok-evaluate_condition.ensures c.if-branch.false)

pub run_elsifs-returns : goal.run_elsifs-returns
run_elsifs-returns g t c = branches_end c.run_sequence_unless_empty.result _ c.loop-branch.invariant c.loop-branch-test.false c.deref-2.ensures.value c.run_sequence_unless_empty.ensures

pub run_general_while-loop-left-init : goal.run_general_while-loop-left-init
run_general_while-loop-left-init g t c = while_begins

pub run_general_while-returns-in_err-evaluate_condition : goal.run_general_while-returns-in_err-evaluate_condition
run_general_while-returns-in_err-evaluate_condition g t c = ending_by c.in_err-evaluate_condition.field-0.0 (err_from_is_err_and c.from_residual.result c.from_residual.ensures.1)
    (while_fails c.in_err-evaluate_condition.field-0.0 c.loop-left.invariant c.in_err-evaluate_condition.ensures)

pub run_general_while-returns-then-not-branch : goal.run_general_while-returns-then-not-branch
run_general_while-returns-then-not-branch g t c = while_ends tt c.loop-left.invariant (settled c.in_ok-evaluate_condition.ensures c.if-not-branch.true)

pub run_general_while-returns-then-left-eq0 : goal.run_general_while-returns-then-left-eq0
run_general_while-returns-then-left-eq0 g t c = while_bound c.loop-left.invariant (settled c.in_ok-evaluate_condition.ensures c.if-not-branch.false) c.if-left-eq0.true

pub run_general_while-loop-left-preserved : goal.run_general_while-loop-left-preserved
run_general_while-loop-left-preserved g t c = while_on c.in_ok-run_sequence_inline.field-0 _ c.loop-left.invariant (settled c.in_ok-evaluate_condition.ensures c.if-not-branch.false) c.if-left-eq0.false c.deref.ensures.value c.in_ok-run_sequence_inline.ensures

pub run_general_while-returns-in_err-run_sequence_inline : goal.run_general_while-returns-in_err-run_sequence_inline
run_general_while-returns-in_err-run_sequence_inline g t c = leaving (err_from_is_err_and c.from_residual-in_err-run_sequence_inline.result c.from_residual-in_err-run_sequence_inline.ensures.1)
    (while_body_fails c.in_err-run_sequence_inline.field-0.0 _ c.loop-left.invariant (settled c.in_ok-evaluate_condition.ensures c.if-not-branch.false) c.if-left-eq0.false c.deref.ensures.value c.in_err-run_sequence_inline.ensures)

pub run_sequence_inline-loop-s-init : goal.run_sequence_inline-loop-s-init
run_sequence_inline-loop-s-init g t c = sequence_begins

pub run_sequence_inline-returns-in_err-run_statement : goal.run_sequence_inline-returns-in_err-run_statement
run_sequence_inline-returns-in_err-run_statement g t c = leaving (err_from_is_err_and c.from_residual.result c.from_residual.ensures.1)
    (sequence_fails c.in_err-run_statement.field-0.0 c.s-item.result c.loop-s.invariant c.loop-s-test.true c.s-item.is c.in_err-run_statement.ensures)

pub run_sequence_inline-loop-s-preserved : goal.run_sequence_inline-loop-s-preserved
run_sequence_inline-loop-s-preserved g t c = sequence_on c.in_ok-run_statement.field-0 c.s-item.result c.loop-s.invariant c.loop-s-test.true c.s-item.is c.in_ok-run_statement.ensures

pub run_sequence_inline-returns : goal.run_sequence_inline-returns
run_sequence_inline-returns g t c = sequence_ends tt c.loop-s.invariant c.loop-s-test.false

pub run_sequence_unless_empty-returns-then-count-eq0 : goal.run_sequence_unless_empty-returns-then-count-eq0
run_sequence_unless_empty-returns-then-count-eq0 g t c = sequence_ends {t = c.args.turns} {ls = levels_of c.args.level.now} {xs = c.args.statements.now} tt sequence_begins (omega (arith, c.if-count-eq0.true))

pub run_statement-returns-in-StoreNumber : goal.run_statement-returns-in-StoreNumber
run_statement-returns-in-StoreNumber g t c = step_is c.args.turns (levels_of c.args.level.now) (sym (ap statement_of c.in-StoreNumber.is)) c.store_number.ensures

pub run_statement-returns-in-StoreNumberInVariable : goal.run_statement-returns-in-StoreNumberInVariable
run_statement-returns-in-StoreNumberInVariable g t c = step_is c.args.turns (levels_of c.args.level.now) (sym (ap statement_of c.in-StoreNumberInVariable.is)) c.store_number_in_variable.ensures

pub run_statement-returns-in-StoreChain : goal.run_statement-returns-in-StoreChain
run_statement-returns-in-StoreChain g t c = step_is c.args.turns (levels_of c.args.level.now)
    (ap (λ x. lowered.stores_number (variable_of c.in-StoreChain.variable) (chain_of x)) c.deref.ensures ∙ sym (ap statement_of c.in-StoreChain.is)) c.store_chain.ensures

pub run_statement-returns-in-Update : goal.run_statement-returns-in-Update
run_statement-returns-in-Update g t c = step_is c.args.turns (levels_of c.args.level.now) (sym (ap statement_of c.in-Update.is)) c.update_variable.ensures

pub run_statement-returns-in-Increase : goal.run_statement-returns-in-Increase
run_statement-returns-in-Increase g t c =
    let a : SFits w32 c.in-Increase.by = search rules in
    step_is c.args.turns (levels_of c.args.level.now) (ap (variable_increase c.in-Increase.variable) (to_z-of_z a) ∙ sym (ap statement_of c.in-Increase.is)) c.increase_variable.ensures

pub run_statement-returns-in-StoreTruth : goal.run_statement-returns-in-StoreTruth
run_statement-returns-in-StoreTruth g t c = step_is c.args.turns (levels_of c.args.level.now) (sym (ap statement_of c.in-StoreTruth.is)) c.store_truth.ensures

pub run_statement-returns-in-StoreConstantInElement : goal.run_statement-returns-in-StoreConstantInElement
run_statement-returns-in-StoreConstantInElement g t c = step_is c.args.turns (levels_of c.args.level.now)
    (ap (λ x. lowered.stores_truth (variable_element_of x) (lowered.constant c.in-StoreConstantInElement.b)) c.deref-in-StoreConstantInElement.ensures ∙ sym (ap statement_of c.in-StoreConstantInElement.is)) c.store_truth_constant_in_element.ensures

pub run_statement-returns-in-Copy : goal.run_statement-returns-in-Copy
run_statement-returns-in-Copy g t c = step_is c.args.turns (levels_of c.args.level.now) (sym (ap statement_of c.in-Copy.is)) c.copy_block.ensures

pub run_statement-returns-in-If : goal.run_statement-returns-in-If
run_statement-returns-in-If g t c = does_statement c.args.turns (levels_of c.args.level.now) (sym (ap statement_of c.in-If.is ∙ if_made c.in-If.i)) c.run_conditional.ensures

pub run_statement-returns-in-While : goal.run_statement-returns-in-While
run_statement-returns-in-While g t c = does_statement c.args.turns (levels_of c.args.level.now) (sym (ap statement_of c.in-While.is ∙ while_made c.in-While.w)) c.run_while.ensures

pub run_statement-returns-in-Repeat : goal.run_statement-returns-in-Repeat
run_statement-returns-in-Repeat g t c = does_statement c.args.turns (levels_of c.args.level.now) (sym (ap statement_of c.in-Repeat.is ∙ repeat_made c.in-Repeat.r)) c.run_repeat.ensures

pub run_repeat-loop-machine-init : goal.run_repeat-loop-machine-init
run_repeat-loop-machine-init g t c = repeat_begins c.saturating_sub-further.ensures

pub run_repeat-returns-in_err-run_sequence_inline : goal.run_repeat-returns-in_err-run_sequence_inline
run_repeat-returns-in_err-run_sequence_inline g t c = leaving (err_from_is_err_and c.from_residual.result c.from_residual.ensures.1)
    (repeat_body_fails c.in_err-run_sequence_inline.field-0.0 _ c.loop-machine.invariant c.deref.ensures.value c.in_err-run_sequence_inline.ensures)

pub run_repeat-returns-in_err-evaluate_condition : goal.run_repeat-returns-in_err-evaluate_condition
run_repeat-returns-in_err-evaluate_condition g t c = ending_by c.in_err-evaluate_condition.field-0.0 (err_from_is_err_and c.from_residual-in_err-evaluate_condition.result c.from_residual-in_err-evaluate_condition.ensures.1)
    (repeat_fails c.in_err-evaluate_condition.field-0.0 (turn_made c.in_ok-run_sequence_inline.field-0 _ c.loop-machine.invariant c.deref.ensures.value c.in_ok-run_sequence_inline.ensures) c.in_err-evaluate_condition.ensures)

pub run_repeat-returns-then-branch : goal.run_repeat-returns-then-branch
run_repeat-returns-then-branch g t c =
    repeat_ends tt (turn_made c.in_ok-run_sequence_inline.field-0 _ c.loop-machine.invariant c.deref.ensures.value c.in_ok-run_sequence_inline.ensures) (settled c.in_ok-evaluate_condition.ensures c.if-branch.true)

pub run_repeat-returns-then-further-eq0 : goal.run_repeat-returns-then-further-eq0
run_repeat-returns-then-further-eq0 g t c =
    repeat_bound (turn_made c.in_ok-run_sequence_inline.field-0 _ c.loop-machine.invariant c.deref.ensures.value c.in_ok-run_sequence_inline.ensures) (settled c.in_ok-evaluate_condition.ensures c.if-branch.false) c.if-further-eq0.true

pub run_repeat-loop-machine-preserved : goal.run_repeat-loop-machine-preserved
run_repeat-loop-machine-preserved g t c =
    repeat_on (turn_made c.in_ok-run_sequence_inline.field-0 _ c.loop-machine.invariant c.deref.ensures.value c.in_ok-run_sequence_inline.ensures) (settled c.in_ok-evaluate_condition.ensures c.if-branch.false) c.if-further-eq0.false

pub run_counting_loop_body-returns-in_err-run_sequence_inline : goal.run_counting_loop_body-returns-in_err-run_sequence_inline
run_counting_loop_body-returns-in_err-run_sequence_inline g t c = λ v found. leaving (err_from_is_err_and c.from_residual.result c.from_residual.ensures.1)
    (before_last c.args.turns (levels_of c.args.level.now) c.args.statements.now c.in_err-run_sequence_inline.field-0.0 (Increase v c.args.by) c.in_err-run_sequence_inline.ensures)

pub run_counting_loop_body-returns : goal.run_counting_loop_body-returns
run_counting_loop_body-returns g t c = λ v found. then_last c.args.turns (levels_of c.args.level.now) c.args.statements.now c.in_ok-run_sequence_inline.field-0 (Increase v c.args.by) c.in_ok-run_sequence_inline.ensures
    (record { has_effect = λ enters p. steps_as enters c.args.turns (levels_of c.args.level.now) v c.increase_cell.result _ _ (to_z-of_z c.ranges.by) (progress_is c.increase_cell.result c.increase_cell.new.machine _ (c.increase_cell.ensures (levels_of c.args.level.now) v (found _) enters c.args.turns)) })

pub run_counting_loop-again-init : goal.run_counting_loop-again-init
run_counting_loop-again-init g t c = λ n known. while_begins

pub run_counting_loop-returns-then-not-is_below_limit : goal.run_counting_loop-returns-then-not-is_below_limit
run_counting_loop-returns-then-not-is_below_limit g t c = λ n known. loop_as c.args.turns (levels_of c.args.level.now) (variable_comparison Less c.args.condition.variable n) c.args.increased.now c.args.statements.now (to_z-of_z c.ranges.by)
    (while_ends tt (c.again.invariant n known) (settled (c.is_below_limit.ensures (levels_of c.args.level.now) c.args.condition.variable n (c.variable_address-compared.ensures _) (known _)) c.if-not-is_below_limit.true))

pub run_counting_loop-returns-then-left-eq0 : goal.run_counting_loop-returns-then-left-eq0
run_counting_loop-returns-then-left-eq0 g t c = λ n known. loop_as c.args.turns (levels_of c.args.level.now) (variable_comparison Less c.args.condition.variable n) c.args.increased.now c.args.statements.now (to_z-of_z c.ranges.by)
    (while_bound (c.again.invariant n known) (settled (c.is_below_limit.ensures (levels_of c.args.level.now) c.args.condition.variable n (c.variable_address-compared.ensures _) (known _)) c.if-not-is_below_limit.false) c.if-left-eq0.true)

pub run_counting_loop-again-preserved : goal.run_counting_loop-again-preserved
run_counting_loop-again-preserved g t c = λ n known. while_on c.in_ok-run_counting_loop_body.field-0 _ (c.again.invariant n known)
    (settled (c.is_below_limit.ensures (levels_of c.args.level.now) c.args.condition.variable n (c.variable_address-compared.ensures _) (known _)) c.if-not-is_below_limit.false) c.if-left-eq0.false refl
    (c.in_ok-run_counting_loop_body.ensures c.args.increased.now (λ cells. c.variable_address-changed.ensures cells))

pub run_counting_loop-returns-in_err-run_counting_loop_body : goal.run_counting_loop-returns-in_err-run_counting_loop_body
run_counting_loop-returns-in_err-run_counting_loop_body g t c = λ n known. leaving (err_from_is_err_and c.from_residual.result c.from_residual.ensures.1)
    (loop_as c.args.turns (levels_of c.args.level.now) (variable_comparison Less c.args.condition.variable n) c.args.increased.now c.args.statements.now (to_z-of_z c.ranges.by) (while_body_fails c.in_err-run_counting_loop_body.field-0.0 _ (c.again.invariant n known)
    (settled (c.is_below_limit.ensures (levels_of c.args.level.now) c.args.condition.variable n (c.variable_address-compared.ensures _) (known _)) c.if-not-is_below_limit.false) c.if-left-eq0.false refl
    (c.in_err-run_counting_loop_body.ensures c.args.increased.now (λ cells. c.variable_address-changed.ensures cells))))
