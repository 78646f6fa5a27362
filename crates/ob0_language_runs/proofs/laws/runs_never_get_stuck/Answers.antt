use Rattle.ob0_language_runs.proofs.SoundCalls.{runs_never_get_stuck-holds}
use Rattle.ob0_language_runs.proofs.laws.runs_never_get_stuck.Goals as goal

pub returns : goal.returns
returns c = runs_never_get_stuck-holds
