use Rattle.ob0_frame.proofs.Messages.{frames_joined}
use Rattle.ob0_frame.proofs.laws.framing_composes.Goals as goal

pub returns : goal.returns
returns c = frames_joined
