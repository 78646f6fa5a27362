use Rattle.ob0_world.proofs.laws.every_connection_course_is_exchange.Goals as goal
use Rattle.ob0_world.proofs.Exchanged as proof

pub returns : goal.returns
returns c = proof.every_connection_course_is_exchange
