use Rattle.ob0_language_runs.proofs.RenamedRuns.{renaming_to_free_name_keeps_typing_and_runs-holds}
use Rattle.ob0_language_runs.proofs.laws.renaming_to_free_name_keeps_typing_and_runs.Goals as goal

pub returns : goal.returns
returns c = renaming_to_free_name_keeps_typing_and_runs-holds
