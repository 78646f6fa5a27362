use Rattle.ob0_world_rules.proofs.laws.other_white_space_preserves_run.Goals as goal
use Rattle.ob0_world_rules.proofs.SameTokens as proof

pub returns : goal.returns
returns c = proof.other_white_space_preserves_run
