use Rattle.ob0_language_types.proofs.InlinedTypes.{inlining_keeps_types-holds}
use Rattle.ob0_language_types.proofs.laws.inlining_keeps_types.Goals as goal

pub returns : goal.returns
returns c = inlining_keeps_types-holds
