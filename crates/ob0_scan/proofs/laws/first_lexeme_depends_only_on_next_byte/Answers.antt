use Rattle.ob0_scan.proofs.Borders as borders
use Rattle.ob0_scan.proofs.laws.first_lexeme_depends_only_on_next_byte.Goals as goal

pub returns : goal.returns
returns c = borders.first_lexeme_depends_only_on_next_byte
