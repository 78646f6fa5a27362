use Rattle.ob0_frame.proofs.Written.{written_frames}
use Rattle.ob0_frame.proofs.laws.written_frames_are_read.Goals as goal

pub returns : goal.returns
returns c = written_frames
