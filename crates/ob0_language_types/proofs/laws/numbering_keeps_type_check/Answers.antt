use Rattle.ob0_language_types.proofs.Proved.{numbering_keeps_type_check-holds}
use Rattle.ob0_language_types.proofs.laws.numbering_keeps_type_check.Goals as goal

pub returns : goal.returns
returns c = numbering_keeps_type_check-holds
