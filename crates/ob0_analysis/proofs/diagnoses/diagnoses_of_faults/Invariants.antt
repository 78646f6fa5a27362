use Rattle.std.proofs.Common.{◌≡◌, map, take}
use Rattle.ob0_analysis.specs.ReportedErrors.{reported_diagnosis_of, reported_diagnosis_of_fault}
use Rattle.ob0_analysis.proofs.diagnoses.diagnoses_of_faults.Given as goal

abbrev pub invariant-loop-fault : goal.invariant-loop-fault
invariant-loop-fault l = map reported_diagnosis_of l.list.items ≡ map reported_diagnosis_of_fault (take l.fault-index l.faults)
