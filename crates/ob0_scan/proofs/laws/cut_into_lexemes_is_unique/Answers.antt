use Rattle.ob0_scan.proofs.Cuts as cuts
use Rattle.ob0_scan.proofs.laws.cut_into_lexemes_is_unique.Goals as goal

pub returns : goal.returns
returns c = cuts.cut_into_lexemes_is_unique
