use Rattle.ob0_types_check.proofs.BoundModules.{typed_modules_have_bound_names-holds}
use Rattle.ob0_types_check.proofs.laws.typed_modules_have_bound_names.Goals as goal

pub returns : goal.returns
returns c = typed_modules_have_bound_names-holds
