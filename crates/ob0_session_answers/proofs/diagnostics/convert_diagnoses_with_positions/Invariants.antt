use Rattle.std.proofs.Common.{map}
use Rattle.ob0_analysis.specs.ReportedErrors.{reported_diagnosis_of}
use Rattle.ob0_session_json.specs.JsonViews.{AreSameDiagnostics}
use Rattle.ob0_session_answers.specs.Diagnostics.{diagnostic_of}
use Rattle.ob0_session_answers.proofs.diagnostics.convert_diagnoses_with_positions.Given as goal

abbrev pub invariant-loop-diagnosis : goal.invariant-loop-diagnosis
invariant-loop-diagnosis g l = AreSameDiagnostics (map (λ d. diagnostic_of (g.T.TextStore.unit_of l.store) (g.T.TextStore.content l.store) (reported_diagnosis_of d)) l.yielded) l.list.items
