use Rattle.ob0_scope.proofs.FirstCaptures.{name_is_free_iff_no_conflict-holds}
use Rattle.ob0_scope.proofs.laws.name_is_free_iff_no_conflict.Goals as goal

pub returns : goal.returns
returns c = name_is_free_iff_no_conflict-holds
