use Rattle.ob0_world_rules.proofs.laws.line_ends_keep_tokens.Goals as goal
use Rattle.ob0_world_rules.proofs.SameTokens as proof

pub returns : goal.returns
returns c = proof.line_ends_keep_tokens
