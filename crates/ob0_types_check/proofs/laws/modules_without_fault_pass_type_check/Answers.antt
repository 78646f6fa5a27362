use Rattle.ob0_types_check.proofs.BlocksFit.{modules_without_fault_pass_type_check-holds}
use Rattle.ob0_types_check.proofs.laws.modules_without_fault_pass_type_check.Goals as goal

pub returns : goal.returns
returns c = modules_without_fault_pass_type_check-holds
