use Rattle.ob0_world.proofs.laws.versions_suffice_to_apply_answers.Goals as goal
use Rattle.ob0_world.proofs.Versions as proof

pub returns : goal.returns
returns c = proof.versions_suffice_to_apply_answers
