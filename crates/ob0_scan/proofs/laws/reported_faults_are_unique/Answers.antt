use Rattle.ob0_scan.proofs.OneReport.{one_reported}
use Rattle.ob0_scan.proofs.laws.reported_faults_are_unique.Goals as goal

pub returns : goal.returns
returns c = one_reported
