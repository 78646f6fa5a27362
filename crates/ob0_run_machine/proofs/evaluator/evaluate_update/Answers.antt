use mir.Val.{SFits}
use Rattle.std.proofs.Math.Facts.{to_z-of_z}
use Rattle.std.proofs.Common.{rules, w32, sym, ap, ◌∙◌}
use Rattle.ob0_run_machine.specs.StepOutcomes.{outcome_of_applied_link}
use Rattle.ob0_run_machine.specs.Evaluation.{◌>>=◌}
use Rattle.ob0_run_machine.specs.Levels.{levels_of}
use Rattle.ob0_run_machine.specs.LoweredSyntax.{cell}
use Rattle.ob0_run_machine.specs.LoweredCodeViews.{variable_of}
use Rattle.ob0_run_machine.proofs.Chains.{applied_to}
use Rattle.ob0_run_machine.proofs.evaluator.evaluate_update.Goals as goal

pub returns : goal.returns
returns c =
    let ls = levels_of c.args.level.now in
    let a : SFits w32 c.variable_value-left.result = search rules in
    c.apply_link.ensures ∙ ap (outcome_of_applied_link ls c.args.cells.now c.args.link.now) (to_z-of_z a) ∙ ap (λ z. z >>= outcome_of_applied_link ls c.args.cells.now c.args.link.now) (sym c.variable_value-left.ensures) ∙ sym (applied_to ls c.args.cells.now (cell (variable_of c.args.variable.now)) c.args.link.now)
