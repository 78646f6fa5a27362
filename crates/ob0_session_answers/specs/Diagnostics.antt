-- Defines the diagnostics of a text. An analysis reports diagnoses, whose spans are byte offsets
-- (`ReportedDiagnosis`). The client receives diagnostics, whose ranges are positions
-- (`Diagnostic`).
-- Rule: docs/PROTOCOL.md, Publishing 3, JSON shapes 2.
use Rattle.std.specs.Prelude.{◌≡◌, ℕ, ℤ, List, Some, map}
use Rattle.ob0_rpc.specs.WrittenMessages.{Writes}
use Rattle.ob0_text.specs.Texts.{position_of}
use Rattle.ob0_text.specs.Units.{width_of}
use Rattle.ob0_text.specs.declared.position_types.Unit.{Unit}
use Rattle.ob0_analysis.specs.ReportedErrors.{ReportedDiagnosis, ReportsErrorsOf}
use Rattle.ob0_analysis.specs.TextBytes.{utf8}
use Rattle.ob0_session_json.specs.JsonShapes.{Diagnostic, publication}

-- Returns the diagnostic for a diagnosis of the text. It has the same code and message. Its start
-- and end are the positions at which the diagnosis starts and ends, counted in `unit`.
abbrev pub diagnostic_of : Unit → List ℕ → ReportedDiagnosis → Diagnostic
diagnostic_of unit text c = record {
  code = c.code;
  message = c.message;
  start = position_of (width_of unit) text c.span.start;
  end = position_of (width_of unit) text c.span.end;
}

-- States that `ds` are the diagnostics of the text. Positions are counted in `unit`.
abbrev pub AreDiagnosticsOf : Unit → List ℕ → List Diagnostic → Type 0
AreDiagnosticsOf unit text ds =
    (reported : List ReportedDiagnosis)
    × ReportsErrorsOf (utf8 text) reported
    × (ds ≡ map (diagnostic_of unit text) reported)

-- States that `content` is the text, as bytes, of the message that publishes the diagnostics of a
-- document with this uri, version and text.
abbrev pub PublishesDiagnostics : Unit → List ℕ → ℤ → List ℕ → List ℕ → Type 0
PublishesDiagnostics unit uri version text content =
    (ds : List Diagnostic)
    × AreDiagnosticsOf unit text ds
    × Writes (publication uri (Some version) ds) content
