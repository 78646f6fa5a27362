use Rattle.ob0_world_determined.proofs.laws.output_is_determined.Goals as goal
use Rattle.ob0_world_determined.proofs.Beginnings.{output_is_determined}

pub returns : goal.returns
returns c = output_is_determined c.conversation_is_determined.ensures c.feeding_result_is_unique.ensures
