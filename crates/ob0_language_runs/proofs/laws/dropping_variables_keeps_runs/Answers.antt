use Rattle.ob0_language_runs.proofs.FreeingKeepsRuns.{dropping_variables_keeps_runs-holds}
use Rattle.ob0_language_runs.proofs.laws.dropping_variables_keeps_runs.Goals as goal

pub returns : goal.returns
returns c = dropping_variables_keeps_runs-holds
