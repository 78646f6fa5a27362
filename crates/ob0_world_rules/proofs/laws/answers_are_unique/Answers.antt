use Rattle.ob0_world_rules.proofs.laws.answers_are_unique.Goals as goal
use Rattle.ob0_world_rules.proofs.AnswerIsDetermined as proof

pub returns : goal.returns
returns c = proof.answers_are_unique
