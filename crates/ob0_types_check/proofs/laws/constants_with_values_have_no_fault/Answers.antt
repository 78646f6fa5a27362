use Rattle.ob0_types_check.proofs.TypedConstants.{constants_with_values_have_no_fault-holds}
use Rattle.ob0_types_check.proofs.laws.constants_with_values_have_no_fault.Goals as goal

pub returns : goal.returns
returns c = constants_with_values_have_no_fault-holds
