use Rattle.ob0_language_runs.proofs.Proved.{numbered_tree_decides_runs-holds}
use Rattle.ob0_language_runs.proofs.laws.numbered_tree_decides_runs.Goals as goal

pub returns : goal.returns
returns c = numbered_tree_decides_runs-holds
