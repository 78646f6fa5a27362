-- Defines the answer to a request for formatting: edits or a refusal.
-- Rule: docs/PROTOCOL.md, Requests on documents 8.
use Rattle.std.specs.Prelude.{◌≡◌, ◌⊎◌, ℕ, List, codes}
use Rattle.serde_json.specs.Data.{Data}
use Rattle.ob0_rpc.specs.JsonShapes.{result_message}
use Rattle.ob0_rpc.specs.WrittenMessages.{Writes}
use Rattle.ob0_text.specs.RefusalTexts.{refusal_text}
use Rattle.ob0_text.specs.declared.edits.Edit.{Edit}
use Rattle.ob0_text.specs.declared.edits.Indent.{Indent}
use Rattle.ob0_text.specs.declared.position_types.Unit.{Unit}
use Rattle.ob0_text.specs.declared.refusals.EditRefusal.TheVariants.{TooLong}
use Rattle.ob0_analysis.specs.ReportedErrors.{IsWellTypedModule}
use Rattle.ob0_analysis.specs.TextBytes.{utf8}
use Rattle.ob0_edits.specs.FormattingEdits.{FormattedTextIsTooLong, FormatsText}
use Rattle.ob0_session_json.specs.JsonShapes.{edit_list_value, edit_refusal_message}

-- States that the message answers a request with this id to format the text with this indentation.
-- The message contains the edits, or it refuses the request. The request is refused if the
-- formatted text is too long, or if the text isn't a well-typed module.
abbrev pub AnswersFormattingRequest : Unit → Data → Indent → List ℕ → Data → Type 0
AnswersFormattingRequest unit id indent text message =
    ((edits : List Edit)
    × FormatsText unit indent text edits
    × (message ≡ result_message id (edit_list_value edits)))
    ⊎ ((FormattedTextIsTooLong indent text × (message ≡ edit_refusal_message id (refusal_text TooLong)))
    ⊎ (¬ IsWellTypedModule (utf8 text) × (message ≡ edit_refusal_message id (codes "ill-typed"))))

-- States that `content` is the text, as bytes, of a message that answers the request for
-- formatting.
abbrev pub WritesAnswerToFormattingRequest : Unit → Data → Indent → List ℕ → List ℕ → Type 0
WritesAnswerToFormattingRequest unit id indent text content =
    (message : Data) × AnswersFormattingRequest unit id indent text message × Writes message content
