use Rattle.ob0_world_determined.proofs.laws.unfinished_message_is_bounded.Goals as goal
use Rattle.ob0_world_determined.proofs.Unfinished as proof

pub returns : goal.returns
returns c = proof.unfinished_message_is_bounded
