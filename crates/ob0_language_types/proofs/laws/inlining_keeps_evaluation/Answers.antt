use Rattle.ob0_language_types.proofs.Inlined.{inlining_keeps_evaluation-holds}
use Rattle.ob0_language_types.proofs.laws.inlining_keeps_evaluation.Goals as goal

pub returns : goal.returns
returns c = inlining_keeps_evaluation-holds
