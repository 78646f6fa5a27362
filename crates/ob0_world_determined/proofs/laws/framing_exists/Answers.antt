use Rattle.ob0_world_determined.proofs.laws.framing_exists.Goals as goal
use Rattle.ob0_world_determined.proofs.Framings as proof

pub returns : goal.returns
returns c = proof.framing_exists
