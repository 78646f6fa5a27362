use Rattle.ob0_language_types.proofs.RenamedTypes.{renaming_to_free_name_keeps_well_typed-holds}
use Rattle.ob0_language_types.proofs.laws.renaming_to_free_name_keeps_well_typed.Goals as goal

pub returns : goal.returns
returns c = renaming_to_free_name_keeps_well_typed-holds
