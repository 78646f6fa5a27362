use Rattle.std.proofs.Common.{◌≡◌}
use Rattle.std.proofs.lemmas.Result.{IfOk-weaker}
use Rattle.ob0_run.specs.Outcomes.{run_of}
use Rattle.ob0_language_runs.specs.Runs.{run}
use Rattle.ob0_commands.specs.TextRuns.{IsRunOfText}
use Rattle.ob0_commands.proofs.run_command.execute_lowered_program.Goals as goal

pub returns : goal.returns
returns c =
    let l = c.requires in
    IfOk-weaker c.execute.result (λ outcome. run_of outcome ≡ run l.tree c.args.input.now c.args.calls c.args.turns) (λ outcome. IsRunOfText c.args.text.now c.args.input.now c.args.calls c.args.turns (run_of outcome))
    (λ outcome same. record { tree = l.tree; text_of = l.text_of; well_typed = l.well_typed; is = same }) (c.execute.ensures l.tree l.runs)
