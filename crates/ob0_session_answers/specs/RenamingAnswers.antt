-- Defines the answer to a request for renaming: edits or a refusal.
-- Rule: docs/PROTOCOL.md, Requests on documents 6.
use Rattle.std.specs.Prelude.{◌≡◌, ◌⊎◌, ℕ, ℤ, List, codes}
use Rattle.serde_json.specs.Data.{Data}
use Rattle.ob0_rpc.specs.Requests.{DocumentPlace}
use Rattle.ob0_rpc.specs.MessageViews.{document_place_view, json_of_id}
use Rattle.ob0_rpc.specs.JsonShapes.{result_message}
use Rattle.ob0_rpc.specs.WrittenMessages.{Writes}
use Rattle.ob0_rpc.specs.declared.client_capabilities.ClientFeatures.{ClientFeatures}
use Rattle.ob0_text.specs.RefusalTexts.{refusal_text}
use Rattle.ob0_text.specs.declared.edits.Edit.{Edit}
use Rattle.ob0_text.specs.declared.position_types.Unit.{Unit}
use Rattle.ob0_text.specs.declared.refusals.EditRefusal.{EditRefusal}
use Rattle.ob0_edits.specs.Renamings.{IsRenameRefusedInText, RenamesInText}
use Rattle.ob0_analysis.specs.ReportedErrors.{IsWellTypedModule}
use Rattle.ob0_analysis.specs.TextBytes.{utf8}
use Rattle.ob0_session_json.specs.JsonShapes.{edit_refusal_message, workspace_edit_value}
use Rattle.ob0_session_answers.specs.declared.rename_request.RenameRequest.{RenameRequest}

-- A request for renaming: its id, the client's capabilities, the document and the position (`at`),
-- the document's version, and the new name.
pub record VersionedRenameRequest : Type 0 where
  pub id : Data
  pub client : ClientFeatures
  pub at : DocumentPlace
  pub version : ℤ
  pub new : List ℕ

-- Converts the code's `RenameRequest` to a `VersionedRenameRequest`, for a document of this
-- version.
abbrev pub rename_request_view : RenameRequest → ℤ → VersionedRenameRequest
rename_request_view r version =
    record {
      id = json_of_id r.id.now;
      client = r.client;
      at = document_place_view r.place.now;
      version = version;
      new = r.new.now;
    }

-- Returns the JSON value of the edits, in the form that the client accepts.
abbrev pub edits_for_client : VersionedRenameRequest → List Edit → Data
edits_for_client requested edits =
    workspace_edit_value requested.client requested.at.uri requested.version edits

-- States that the message answers the request for renaming in a document with this text. The
-- message contains the edits, or it refuses the request. The request is refused if the renaming is
-- refused (`IsRenameRefusedInText`), or if the text isn't a well-typed module. Positions are
-- counted in `unit`.
abbrev pub AnswersRenameRequest : Unit → VersionedRenameRequest → List ℕ → Data → Type 0
AnswersRenameRequest unit requested text message =
    ((edits : List Edit)
    × RenamesInText unit text requested.at.position requested.new edits
    × (message ≡ result_message requested.id (edits_for_client requested edits)))
    ⊎ (((refusal : EditRefusal)
    × IsRenameRefusedInText unit text requested.at.position requested.new refusal
    × (message ≡ edit_refusal_message requested.id (refusal_text refusal)))
    ⊎ (¬ IsWellTypedModule (utf8 text) × (message ≡ edit_refusal_message requested.id (codes "ill-typed"))))

-- States that `content` is the text, as bytes, of a message that answers the request for renaming.
abbrev pub WritesAnswerToRenameRequest : Unit → VersionedRenameRequest → List ℕ → List ℕ → Type 0
WritesAnswerToRenameRequest unit requested text content =
    (message : Data) × AnswersRenameRequest unit requested text message × Writes message content
