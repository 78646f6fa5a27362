use Rattle.ob0_types_check.proofs.TypedModules.{typed_modules_have_no_fault-holds}
use Rattle.ob0_types_check.proofs.laws.typed_modules_have_no_fault.Goals as goal

pub returns : goal.returns
returns c = typed_modules_have_no_fault-holds
