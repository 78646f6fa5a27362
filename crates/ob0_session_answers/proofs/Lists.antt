-- Proves that the list of the code's diagnostics agrees with the list of diagnoses, item by item.
use Rattle.std.proofs.Common.{◌≡◌, ◌∙◌, List, [], ◌∷◌, ◌++◌, map, refl}
use Rattle.std.proofs.lemmas.List.{map-append}
use mathlib.Core.List.{map-map}
use Rattle.ob0_analysis.specs.declared.diagnoses.Diagnosis.{Diagnosis}
use Rattle.ob0_analysis.specs.ReportedErrors.{ReportedDiagnosis, reported_diagnosis_of}
use Rattle.ob0_session_json.specs.JsonViews.{AreSameDiagnostics, diagnostic_view}
use Rattle.ob0_session_json.specs.JsonShapes as shapes
use Rattle.ob0_session_json.specs.declared.publication.Diagnostic.{Diagnostic}

-- If the list agrees with the diagnoses so far, it still agrees after the diagnostic of the next
-- diagnosis is added.
pub diagnostics_next : (shown : Diagnosis → shapes.Diagnostic) (listed : List Diagnosis) (d : Diagnosis) (vs : List Diagnostic) (v : Diagnostic) → AreSameDiagnostics (map shown listed) vs → diagnostic_view v ≡ shown d → AreSameDiagnostics (map shown (listed ++ d ∷ [])) (vs ++ v ∷ [])
diagnostics_next shown listed d vs v are is = rw (map-append shown listed (d ∷ []), map-append diagnostic_view vs (v ∷ []), are, is) refl

-- The diagnostics of a list of diagnoses are the diagnostics of their complaints.
pub diagnostics_of_all : (shown : ReportedDiagnosis → shapes.Diagnostic) (reported : List Diagnosis) (vs : List Diagnostic) → AreSameDiagnostics (map (λ d. shown (reported_diagnosis_of d)) reported) vs → AreSameDiagnostics (map shown (map reported_diagnosis_of reported)) vs
diagnostics_of_all shown reported vs are = map-map shown reported_diagnosis_of reported ∙ are
