use Rattle.ob0_frame.proofs.InTurn.{fed_split}
use Rattle.ob0_frame.proofs.laws.earlier_contents_are_prefix.Goals as goal

pub returns : goal.returns
returns c = fed_split
