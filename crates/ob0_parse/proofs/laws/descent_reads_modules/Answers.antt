use Rattle.ob0_parse.proofs.Whole.{descends_module}
use Rattle.ob0_parse.proofs.laws.descent_reads_modules.Goals as goal

pub returns : goal.returns
returns c = descends_module
