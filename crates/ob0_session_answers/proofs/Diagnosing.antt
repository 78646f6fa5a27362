-- Proves that the diagnostics of a text are the same for its characters and for its bytes in UTF-8.
use Rattle.std.proofs.Common.{◌≡◌, ℕ, List, map, refl, subst}
use Rattle.std.specs.Str.{chars, IsUtf8}
use Rattle.ob0_text.specs.declared.position_types.Unit.{Unit}
use Rattle.ob0_analysis.specs.ReportedErrors.{ReportedDiagnosis, ReportsErrorsOf}
use Rattle.ob0_session_answers.specs.Diagnostics.{diagnostic_of, AreDiagnosticsOf}
use Rattle.ob0_analysis.proofs.Scanning.{utf8_of}

pub diagnosed : (unit : Unit) (bytes text : List ℕ) (reported : List ReportedDiagnosis) → IsUtf8 bytes → chars bytes ≡ text → ReportsErrorsOf bytes reported → AreDiagnosticsOf unit text (map (diagnostic_of unit text) reported)
diagnosed unit bytes text reported u is h = (reported, subst (λ (t : List ℕ). ReportsErrorsOf t reported) (utf8_of bytes text u is) h, refl)
