use Rattle.std.proofs.Common.{sym, ap, ◌∙◌}
use Rattle.std.proofs.lemmas.Result.{err_from_is_err_and}
use Rattle.ob0_run_machine.specs.declared.code.TruthList.{out-TruthList}
use Rattle.ob0_run_machine.specs.StepOutcomes.{end_of}
use Rattle.ob0_run_machine.specs.Evaluation.{ends, gives, truth_value}
use Rattle.ob0_run_machine.specs.Levels.{levels_of}
use Rattle.ob0_run_machine.specs.LoweredCodeViews.{conjunction_of, disjunction_of, truth_of}
use Rattle.ob0_run_machine.proofs.TruthList.{all_fails, all_made, any_fails, any_made}
use Rattle.ob0_run_machine.proofs.Exits.{reported_exit}
use Rattle.ob0_run_machine.proofs.evaluator.+truths.Goals as goal

pub evaluate_conjunction_list-returns-in_err-left : goal.evaluate_conjunction_list-returns-in_err-left
evaluate_conjunction_list-returns-in_err-left t c = reported_exit c.from_residual.result c.in_err-left.field-0.0 _ (err_from_is_err_and c.from_residual.result c.from_residual.ensures.1)
    (all_fails (levels_of c.args.level.now) c.args.cells.now (truth_of (out-TruthList c.args.several.now).first) (out-TruthList c.args.several.now).rest.items (ends (end_of c.in_err-left.field-0.0)) c.in_err-left.ensures)

pub evaluate_disjunction_list-returns-in_err-left : goal.evaluate_disjunction_list-returns-in_err-left
evaluate_disjunction_list-returns-in_err-left t c = reported_exit c.from_residual.result c.in_err-left.field-0.0 _ (err_from_is_err_and c.from_residual.result c.from_residual.ensures.1)
    (any_fails (levels_of c.args.level.now) c.args.cells.now (truth_of (out-TruthList c.args.several.now).first) (out-TruthList c.args.several.now).rest.items (ends (end_of c.in_err-left.field-0.0)) c.in_err-left.ensures)

pub evaluate_conjunction_list-loop-t-init : goal.evaluate_conjunction_list-loop-t-init
evaluate_conjunction_list-loop-t-init t c = record { so_far = sym (all_fails (levels_of c.args.level.now) c.args.cells.now (truth_of (out-TruthList c.args.several.now).first) (out-TruthList c.args.several.now).rest.items (gives c.in_ok-left.left) c.in_ok-left.ensures) }

pub evaluate_disjunction_list-loop-t-init : goal.evaluate_disjunction_list-loop-t-init
evaluate_disjunction_list-loop-t-init t c = record { so_far = sym (any_fails (levels_of c.args.level.now) c.args.cells.now (truth_of (out-TruthList c.args.several.now).first) (out-TruthList c.args.several.now).rest.items (gives c.in_ok-left.left) c.in_ok-left.ensures) }

pub evaluate_general_truth-returns-in-All : goal.evaluate_general_truth-returns-in-All
evaluate_general_truth-returns-in-All t c = c.evaluate_conjunction_list.ensures ∙ ap (truth_value (levels_of c.args.level.now) c.args.cells.now) (ap conjunction_of c.deref-in-All.ensures ∙ sym (all_made c.in-All.several) ∙ ap truth_of (sym c.in-All.is))

pub evaluate_general_truth-returns-in-Any : goal.evaluate_general_truth-returns-in-Any
evaluate_general_truth-returns-in-Any t c = c.evaluate_disjunction_list.ensures ∙ ap (truth_value (levels_of c.args.level.now) c.args.cells.now) (ap disjunction_of c.deref-in-Any.ensures ∙ sym (any_made c.in-Any.several) ∙ ap truth_of (sym c.in-Any.is))
