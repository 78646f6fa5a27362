use Rattle.ob0_frame.proofs.Messages.{frames_unique}
use Rattle.ob0_frame.proofs.laws.framing_is_unique.Goals as goal

pub returns : goal.returns
returns c = frames_unique
