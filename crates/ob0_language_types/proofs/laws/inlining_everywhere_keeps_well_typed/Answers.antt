use Rattle.ob0_language_types.proofs.InlinedEverywhere.{inlining_everywhere_keeps_well_typed-holds}
use Rattle.ob0_language_types.proofs.laws.inlining_everywhere_keeps_well_typed.Goals as goal

pub returns : goal.returns
returns c = inlining_everywhere_keeps_well_typed-holds
