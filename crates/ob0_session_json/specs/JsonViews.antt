-- Converts the code's edits and code actions to JSON values, and the code's diagnostics to
-- diagnostics of the specs.
use Rattle.std.specs.Prelude.{◌≡◌, List, map, string_bytes}
use Rattle.serde_json.specs.Data.{Data}
use Rattle.ob0_session_json.specs.JsonShapes as shapes
use Rattle.ob0_session_json.specs.declared.edits.CodeAction.{CodeAction}
use Rattle.ob0_session_json.specs.declared.edits.WorkspaceEdit.{WorkspaceEdit}
use Rattle.ob0_session_json.specs.declared.publication.Diagnostic.{Diagnostic}

-- Returns the JSON value of the code's `WorkspaceEdit`, the edits of one document.
abbrev pub workspace_edit_view : WorkspaceEdit → Data
workspace_edit_view e = shapes.workspace_edit_value e.client e.uri.now e.version e.edits.now

-- Returns the JSON value of the code's `CodeAction`.
abbrev pub code_action_view : CodeAction → Data
code_action_view a = shapes.code_action_value (workspace_edit_view a.edit) a.title.now

-- Converts the code's diagnostic to a `Diagnostic` of the specs.
abbrev pub diagnostic_view : Diagnostic → shapes.Diagnostic
diagnostic_view d = record {
  code = d.code.now;
  message = string_bytes d.message;
  start = d.range.start;
  end = d.range.end;
}

-- States that the code's diagnostics (`list`), as diagnostics of the specs, are the list `ds`.
abbrev pub AreSameDiagnostics : List shapes.Diagnostic → List Diagnostic → Type 0
AreSameDiagnostics ds list = ds ≡ map diagnostic_view list
