use Rattle.ob0_world_determined.proofs.laws.result_is_determined.Goals as goal
use Rattle.ob0_world_determined.proofs.Streams.{result_is_determined}

pub returns : goal.returns
returns c = result_is_determined c.conversation_is_determined.ensures c.feeding_result_is_unique.ensures
