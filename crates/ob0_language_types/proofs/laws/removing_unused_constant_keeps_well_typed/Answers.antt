use Rattle.ob0_language_types.proofs.EditedModules.{removing_unused_constant_keeps_well_typed-holds}
use Rattle.ob0_language_types.proofs.laws.removing_unused_constant_keeps_well_typed.Goals as goal

pub returns : goal.returns
returns c = removing_unused_constant_keeps_well_typed-holds
