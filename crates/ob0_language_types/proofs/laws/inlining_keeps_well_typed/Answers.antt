use Rattle.ob0_language_types.proofs.EditedModules.{inlining_keeps_well_typed-holds}
use Rattle.ob0_language_types.proofs.laws.inlining_keeps_well_typed.Goals as goal

pub returns : goal.returns
returns c = inlining_keeps_well_typed-holds
