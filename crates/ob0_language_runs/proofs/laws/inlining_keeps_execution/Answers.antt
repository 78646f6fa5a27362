use Rattle.ob0_language_runs.proofs.InlinedStatements.{inlining_keeps_execution-holds}
use Rattle.ob0_language_runs.proofs.laws.inlining_keeps_execution.Goals as goal

pub returns : goal.returns
returns c = inlining_keeps_execution-holds
