use Rattle.ob0_frame.proofs.InTurn.{fed_nothing}
use Rattle.ob0_frame.proofs.laws.empty_feed_completes_nothing.Goals as goal

pub returns : goal.returns
returns c = fed_nothing
