use Rattle.std.specs.Option.{IfSome}
use Rattle.std.proofs.Common.{◌≡◌, Some, subst}
use Rattle.std.proofs.lemmas.Result.{IfOk-weaker}
use Rattle.ob0_language_runs.specs.Runs.{run}
use Rattle.ob0_run_machine.specs.Execution as machine
use Rattle.ob0_run_machine.specs.Outcomes as outcomes
use Rattle.ob0_run_machine.specs.LoweredCodeViews.{program_of}
use Rattle.ob0_run_cells.specs.LoweringLaws as law
use Rattle.ob0_run.specs.Outcomes.{run_of}
use Rattle.ob0_run.proofs.module_runs.execute.Goals as goal

pub returns : goal.returns
returns c = λ m runs.
    let input = c.args.input.now in
    let calls = c.args.calls in
    let turns = c.args.turns in
    IfOk-weaker c.run.result (λ o. machine.run (program_of c.args.program.now.code) input calls turns ≡ Some (outcomes.run_of o)) (λ o. run_of o ≡ run m input calls turns)
    (λ o e. subst (λ r. IfSome r (λ r. law.run_of r ≡ run m input calls turns)) e (runs input calls turns)) c.run.ensures
