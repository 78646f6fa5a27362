use Rattle.ob0_analysis.proofs.Refusals.{reported_refusal_is_unique}
use Rattle.ob0_analysis.proofs.laws.reported_refusal_is_unique.Goals as goal

pub returns : goal.returns
returns c text a b p q = reported_refusal_is_unique c.scan_is_unique.ensures c.descent_end_is_unique.ensures text a b p q
