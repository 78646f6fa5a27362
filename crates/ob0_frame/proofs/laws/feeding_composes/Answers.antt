use Rattle.ob0_frame.proofs.InTurn.{fed_in_turn}
use Rattle.ob0_frame.proofs.laws.feeding_composes.Goals as goal

pub returns : goal.returns
returns c = fed_in_turn
