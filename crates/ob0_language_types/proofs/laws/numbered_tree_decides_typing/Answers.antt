use Rattle.ob0_language_types.proofs.Proved.{numbered_tree_decides_typing-holds}
use Rattle.ob0_language_types.proofs.laws.numbered_tree_decides_typing.Goals as goal

pub returns : goal.returns
returns c = numbered_tree_decides_typing-holds
