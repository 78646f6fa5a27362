use Rattle.ob0_world_determined.proofs.laws.diagnoses_are_determined.Goals as goal
use Rattle.ob0_world_determined.proofs.ReportsErrorsOf.{diagnoses_are_determined}

pub returns : goal.returns
returns c = diagnoses_are_determined c.scan_is_unique.ensures c.reported_faults_are_unique.ensures c.reported_refusal_is_unique.ensures c.resolution_is_determined.ensures
