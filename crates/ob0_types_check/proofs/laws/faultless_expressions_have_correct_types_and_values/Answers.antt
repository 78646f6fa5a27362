use Rattle.ob0_types_check.proofs.Proved.{faultless_expressions_have_correct_types_and_values-holds}
use Rattle.ob0_types_check.proofs.laws.faultless_expressions_have_correct_types_and_values.Goals as goal

pub returns : goal.returns
returns c = faultless_expressions_have_correct_types_and_values-holds
