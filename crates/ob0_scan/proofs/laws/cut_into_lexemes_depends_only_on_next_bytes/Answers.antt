use Rattle.ob0_scan.proofs.Borders as borders
use Rattle.ob0_scan.proofs.laws.cut_into_lexemes_depends_only_on_next_bytes.Goals as goal

pub returns : goal.returns
returns c = borders.cut_into_lexemes_depends_only_on_next_bytes
