use Rattle.ob0_language_types.proofs.Constants.{constants_hold-holds}
use Rattle.ob0_language_types.proofs.laws.constants_have_same_value_in_run_and_checker.Goals as goal

pub returns : goal.returns
returns c = constants_hold-holds
