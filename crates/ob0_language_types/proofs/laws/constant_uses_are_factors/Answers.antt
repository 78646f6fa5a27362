use Rattle.ob0_language_types.proofs.ConstantUsesAreWhole.{constant_uses_are_factors-holds}
use Rattle.ob0_language_types.proofs.laws.constant_uses_are_factors.Goals as goal

pub returns : goal.returns
returns c = constant_uses_are_factors-holds
