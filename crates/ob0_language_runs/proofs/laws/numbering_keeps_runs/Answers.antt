use Rattle.ob0_language_runs.proofs.Proved.{numbering_keeps_runs-holds}
use Rattle.ob0_language_runs.proofs.laws.numbering_keeps_runs.Goals as goal

pub returns : goal.returns
returns c = numbering_keeps_runs-holds
