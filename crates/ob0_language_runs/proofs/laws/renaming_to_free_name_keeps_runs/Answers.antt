use Rattle.ob0_language_runs.proofs.Proved.{renaming_to_free_name_keeps_runs-holds}
use Rattle.ob0_language_runs.proofs.laws.renaming_to_free_name_keeps_runs.Goals as goal

pub returns : goal.returns
returns c = renaming_to_free_name_keeps_runs-holds
