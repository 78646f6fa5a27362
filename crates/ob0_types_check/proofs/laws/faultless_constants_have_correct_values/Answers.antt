use Rattle.ob0_types_check.proofs.Proved.{faultless_constants_have_correct_values-holds}
use Rattle.ob0_types_check.proofs.laws.faultless_constants_have_correct_values.Goals as goal

pub returns : goal.returns
returns c = faultless_constants_have_correct_values-holds
