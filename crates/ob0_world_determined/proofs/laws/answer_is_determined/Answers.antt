use Rattle.ob0_world_determined.proofs.laws.answer_is_determined.Goals as goal
use Rattle.ob0_world_determined.proofs.Conversations.{answer_is_determined}

pub returns : goal.returns
returns c = answer_is_determined c.reply_contents_are_determined.ensures
