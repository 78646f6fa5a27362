use Rattle.ob0_text.proofs.LawsOfLines.{lines_joined}
use Rattle.ob0_text.proofs.laws.lines_join_to_text.Goals as goal

pub returns : goal.returns
returns c = lines_joined
