use Rattle.ob0_language_runs.proofs.EditedRuns.{inlining_keeps_typing_and_runs-holds}
use Rattle.ob0_language_runs.proofs.laws.inlining_keeps_typing_and_runs.Goals as goal

pub returns : goal.returns
returns c = inlining_keeps_typing_and_runs-holds
