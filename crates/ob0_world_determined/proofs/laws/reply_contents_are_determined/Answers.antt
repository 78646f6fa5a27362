use Rattle.ob0_world_determined.proofs.laws.reply_contents_are_determined.Goals as goal
use Rattle.ob0_world_determined.proofs.Replies.{reply_contents_are_determined}

pub returns : goal.returns
returns c = reply_contents_are_determined c.diagnoses_are_determined.ensures c.resolution_is_determined.ensures
