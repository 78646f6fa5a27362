use Rattle.ob0_world.proofs.laws.answers_mention_versions.Goals as goal
use Rattle.ob0_world.proofs.Versions as proof

pub returns : goal.returns
returns c = proof.answers_mention_versions
