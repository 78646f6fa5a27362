use Rattle.std.proofs.Common.{arith}
use Rattle.ob0_analysis.specs.ReportedErrors.{reported_diagnosis_of, reported_diagnosis_of_fault}
use Rattle.ob0_analysis.proofs.Alike.{maps_more}
use Rattle.ob0_analysis.proofs.diagnoses.diagnoses_of_faults.Goals as goal

pub loop-fault-preserved : goal.loop-fault-preserved
loop-fault-preserved c =
    rw c.in_ok-push.ensures.items (maps_more reported_diagnosis_of reported_diagnosis_of_fault c.loop-fault.list.items _ c.args.faults.now c.loop-fault.fault-index _ (omega arith) c.loop-fault.invariant c.in_ok-diagnosis_of_fault.ensures)
