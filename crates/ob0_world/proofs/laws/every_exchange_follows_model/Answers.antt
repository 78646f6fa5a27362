use Rattle.ob0_world.proofs.laws.every_exchange_follows_model.Goals as goal
use Rattle.ob0_world.proofs.Exchanges as proof

pub returns : goal.returns
returns c = proof.every_exchange_follows_model
