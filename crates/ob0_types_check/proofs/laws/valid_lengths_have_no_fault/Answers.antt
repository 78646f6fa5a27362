use Rattle.ob0_types_check.proofs.TypedConstants.{valid_lengths_have_no_fault-holds}
use Rattle.ob0_types_check.proofs.laws.valid_lengths_have_no_fault.Goals as goal

pub returns : goal.returns
returns c = valid_lengths_have_no_fault-holds
