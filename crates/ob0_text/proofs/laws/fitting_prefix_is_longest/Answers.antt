use Rattle.ob0_text.specs.Units.{width_of}
use Rattle.ob0_text.proofs.LawsOfLines.{longest}
use Rattle.ob0_text.proofs.laws.fitting_prefix_is_longest.Goals as goal

pub returns : goal.returns
returns c = λ unit. longest (width_of unit)
