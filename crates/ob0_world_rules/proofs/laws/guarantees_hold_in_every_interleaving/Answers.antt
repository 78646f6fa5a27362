use Rattle.ob0_world_rules.proofs.laws.guarantees_hold_in_every_interleaving.Goals as goal
use Rattle.ob0_world_rules.proofs.ModelEditor as proof

pub returns : goal.returns
returns c = proof.guarantees_hold_in_every_interleaving
