use Rattle.std.proofs.Common.{◌∙◌}
use Rattle.ob0_analysis.specs.ReportedErrors.{reported_diagnosis_of}
use Rattle.ob0_session_answers.specs.Diagnostics.{diagnostic_of}
use Rattle.ob0_analysis.specs.declared.diagnoses.Diagnosis.{Diagnosis}
use Rattle.ob0_session_answers.proofs.Lists.{diagnostics_next}
use Rattle.ob0_session_answers.proofs.diagnostics.convert_diagnoses_with_positions.Goals as goal

pub loop-diagnosis-preserved : goal.loop-diagnosis-preserved
loop-diagnosis-preserved g c =
    let unit = g.T.TextStore.unit_of c.args.store.now in
    let text = g.T.TextStore.content c.args.store.now in
    let shown = λ (d : Diagnosis). diagnostic_of unit text (reported_diagnosis_of d) in
    let this = reported_diagnosis_of c.in-Some.diagnosis in
    rw c.in_ok-push.ensures.items
    (diagnostics_next shown c.loop-diagnosis.yielded c.in-Some.diagnosis c.loop-diagnosis.list.items c.diagnostic_with_range.result c.loop-diagnosis.invariant
    (c.diagnostic_with_range.ensures ∙ (λ i. record { code = this.code; message = this.message; start = c.position_at-start.ensures i; end = c.position_at-end.ensures i })))
