use Rattle.ob0_world_rules.proofs.laws.publications_are_in_order.Goals as goal
use Rattle.ob0_world_rules.proofs.ModelEditor as proof

pub returns : goal.returns
returns c = proof.publications_are_in_order
