use Rattle.ob0_tree.proofs.Leaves.{leaves_parsed, leaves_ascend, leaves_are_identifiers}
use Rattle.ob0_tree.proofs.tree_lists_all_identifiers.Goals as goal

pub returns-clause-all : goal.returns-clause-all
returns-clause-all c m p = leaves_parsed m p

pub returns-clause-ascend : goal.returns-clause-ascend
returns-clause-ascend c m p = leaves_ascend m p

pub returns-clause-are_identifiers : goal.returns-clause-are_identifiers
returns-clause-are_identifiers c m p = leaves_are_identifiers m p
