use Rattle.ob0_world_determined.proofs.laws.conversation_is_determined.Goals as goal
use Rattle.ob0_world_determined.proofs.Conversations.{conversation_is_determined}

pub returns : goal.returns
returns c = conversation_is_determined c.answer_is_determined.ensures
