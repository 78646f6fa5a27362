use Rattle.ob0_types_check.proofs.TypedConstants.{well_typed_expressions_have_no_fault-holds}
use Rattle.ob0_types_check.proofs.laws.well_typed_expressions_have_no_fault.Goals as goal

pub returns : goal.returns
returns c = well_typed_expressions_have_no_fault-holds
