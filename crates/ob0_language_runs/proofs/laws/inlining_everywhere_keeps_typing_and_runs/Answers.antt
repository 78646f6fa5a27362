use Rattle.ob0_language_runs.proofs.RunsEverywhere.{inlining_everywhere_keeps_typing_and_runs-holds}
use Rattle.ob0_language_runs.proofs.laws.inlining_everywhere_keeps_typing_and_runs.Goals as goal

pub returns : goal.returns
returns c = inlining_everywhere_keeps_typing_and_runs-holds
