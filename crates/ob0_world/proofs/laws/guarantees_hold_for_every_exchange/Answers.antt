use Rattle.ob0_world.proofs.laws.guarantees_hold_for_every_exchange.Goals as goal
use Rattle.ob0_world.proofs.Exchanges as proof

pub returns : goal.returns
returns c = proof.guarantees_hold_for_every_exchange
