use Rattle.ob0_language_runs.proofs.EditedRuns.{removing_unused_constant_keeps_typing_and_runs-holds}
use Rattle.ob0_language_runs.proofs.laws.removing_unused_constant_keeps_typing_and_runs.Goals as goal

pub returns : goal.returns
returns c = removing_unused_constant_keeps_typing_and_runs-holds
