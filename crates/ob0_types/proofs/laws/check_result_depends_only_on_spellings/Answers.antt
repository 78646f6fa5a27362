use Rattle.ob0_types.proofs.SameSpellings.{check_result_depends_only_on_spellings}
use Rattle.ob0_types.proofs.laws.check_result_depends_only_on_spellings.Goals as goal

pub returns : goal.returns
returns c = check_result_depends_only_on_spellings
