use Rattle.ob0_parse_descent.proofs.Descent.{same_stop}
use Rattle.ob0_parse.proofs.laws.descent_end_is_unique.Goals as goal

pub returns : goal.returns
returns c ps i tokens a b p q = same_stop p q
