use Rattle.ob0_scan.proofs.Spans as spans
use Rattle.ob0_scan.proofs.laws.scan_is_unique.Goals as goal

pub returns : goal.returns
returns c = spans.scan_is_unique
