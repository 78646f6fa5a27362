use mir.Val.{SFits}
use Rattle.std.proofs.Math.Facts.{to_z-of_z}
use Rattle.std.proofs.Common.{rules, w32, sym, ap, ◌∙◌}
use Rattle.std.proofs.lemmas.Result.{err_from_is_err_and}
use Rattle.ob0_run_machine.specs.declared.code.Chain.{out-Chain}
use Rattle.ob0_run_machine.specs.StepOutcomes.{end_of}
use Rattle.ob0_run_machine.specs.Evaluation.{ends, number_value, ◌>>=◌}
use Rattle.ob0_run_machine.specs.Levels.{levels_of}
use Rattle.ob0_run_machine.specs.LoweredCodeViews.{chain_of, first_operand_of, number_of}
use Rattle.ob0_run_machine.specs.declared.code.Operation.{out-Operation}
use Rattle.ob0_run_machine.specs.StepOutcomes.{outcome_of_applied_link}
use Rattle.ob0_run_machine.proofs.Chains.{applied_to, chain_begins, chain_fails, chain_made}
use Rattle.ob0_run_machine.proofs.Exits.{reported_exit}
use Rattle.ob0_run_machine.proofs.evaluator.+evaluation.Goals as goal

pub evaluate_chain-returns-in_err-left : goal.evaluate_chain-returns-in_err-left
evaluate_chain-returns-in_err-left t c = reported_exit c.from_residual.result c.in_err-left.field-0.0 _ (err_from_is_err_and c.from_residual.result c.from_residual.ensures.1)
    (chain_fails (levels_of c.args.level.now) c.args.cells.now (first_operand_of (out-Chain c.args.c.now).first) (out-Chain c.args.c.now).rest.items (ends (end_of c.in_err-left.field-0.0)) c.in_err-left.ensures)

pub evaluate_chain-loop-link-init : goal.evaluate_chain-loop-link-init
evaluate_chain-loop-link-init t c = let a : SFits w32 c.in_ok-left.left = search rules in
    rw (to_z-of_z a) (chain_begins (levels_of c.args.level.now) c.args.cells.now (first_operand_of (out-Chain c.args.c.now).first) (out-Chain c.args.c.now).rest.items _ c.in_ok-left.ensures)

pub evaluate_number-returns-in-Chain : goal.evaluate_number-returns-in-Chain
evaluate_number-returns-in-Chain t c = c.into_result-in-Chain.ensures ∙ c.evaluate_chain_as_flat_outcome.ensures ∙ ap (number_value (levels_of c.args.level.now) c.args.cells.now) (ap chain_of c.deref-in-Chain.ensures ∙ sym (chain_made c.in-Chain.c) ∙ ap number_of (sym c.in-Chain.is))

pub evaluate_general_operation-returns-in-Ok : goal.evaluate_general_operation-returns-in-Ok
evaluate_general_operation-returns-in-Ok t c =
    let ls = levels_of c.args.level.now in
    let o = out-Operation c.args.o.now in
    let a : SFits w32 c.in-Ok.left = search rules in
    c.into_flat_outcome.ensures ∙ c.apply_link.ensures ∙ ap (outcome_of_applied_link ls c.args.cells.now o.link) (to_z-of_z a) ∙ ap (λ z. z >>= outcome_of_applied_link ls c.args.cells.now o.link) c.in-Ok.ensures ∙ sym (applied_to ls c.args.cells.now (first_operand_of o.first) o.link)

pub evaluate_general_operation-returns-in-Err : goal.evaluate_general_operation-returns-in-Err
evaluate_general_operation-returns-in-Err t c =
    let ls = levels_of c.args.level.now in
    let o = out-Operation c.args.o.now in
    c.into_flat_outcome-in-Err.ensures ∙ ap (λ z. z >>= outcome_of_applied_link ls c.args.cells.now o.link) c.in-Err.ensures ∙ sym (applied_to ls c.args.cells.now (first_operand_of o.first) o.link)

pub evaluate_operation-returns-in-Variable : goal.evaluate_operation-returns-in-Variable
evaluate_operation-returns-in-Variable t c =
    let ls = levels_of c.args.level.now in
    let o = out-Operation c.args.o.now in
    let a : SFits w32 c.variable_value.result = search rules in
    c.into_flat_outcome.ensures ∙ c.apply_link.ensures ∙ ap (outcome_of_applied_link ls c.args.cells.now o.link) (to_z-of_z a)
    ∙ ap (λ z. z >>= outcome_of_applied_link ls c.args.cells.now o.link) (sym c.variable_value.ensures ∙ sym (ap (λ f. number_value ls c.args.cells.now (first_operand_of f)) c.in-Variable.is))
    ∙ sym (applied_to ls c.args.cells.now (first_operand_of o.first) o.link)
