-- Defines the answer to a request for code actions, which inline a constant at one use or
-- everywhere.
-- Rule: docs/PROTOCOL.md, Requests on documents 7.
use Rattle.std.specs.Prelude.{◌≡◌, ◌⊎◌, ℕ, ℤ, List, [], ◌∷◌, ◌++◌, Bool, true, false, ◌&&◌, ◌||◌, min, Option, Some, None, Vec, codes}
use Rattle.std.specs.List.{list_any}
use Rattle.std.specs.Str.{bytes_eq}
use Rattle.std.specs.declared.alloc.Global.{Global}
use Rattle.serde_json.specs.Data.{Data, array, no_items}
use Rattle.serde_json.specs.View.{items_of}
use Rattle.ob0_rpc.specs.MessageViews.{json_of_id, action_kinds_view}
use Rattle.ob0_rpc.specs.JsonShapes.{result_message}
use Rattle.ob0_rpc.specs.WrittenMessages.{Writes}
use Rattle.ob0_rpc.specs.declared.client_capabilities.ClientFeatures.{ClientFeatures}
use Rattle.ob0_text.specs.Texts.{offset_of}
use Rattle.ob0_text.specs.Units.{width_of}
use Rattle.ob0_text.specs.declared.edits.Edit.{Edit}
use Rattle.ob0_text.specs.declared.position_types.Range.{Range}
use Rattle.ob0_text.specs.declared.position_types.Unit.{Unit}
use Rattle.ob0_analysis.specs.ReportedErrors.{IsWellTypedModule}
use Rattle.ob0_analysis.specs.TextBytes.{utf8}
use Rattle.ob0_edits.specs.InliningEdits.{IsInlineResultInText}
use Rattle.ob0_session_json.specs.JsonShapes.{code_action_value, workspace_edit_value}
use Rattle.ob0_session_answers.specs.declared.actions.ActionsRequest.{ActionsRequest}
use Rattle.ob0_edits.specs.declared.inline_question.InliningKind.{InliningKind}
use Rattle.ob0_edits.specs.declared.inline_question.InliningKind.TheVariants.{OneUse, Everywhere}

-- ---- the request

-- A request for code actions: its id, the client's capabilities, the document's uri and version,
-- the range, and the requested kinds of actions. If `only` is None, all kinds are requested.
pub record VersionedActionsRequest : Type 0 where
  pub id : Data
  pub client : ClientFeatures
  pub uri : List ℕ
  pub version : ℤ
  pub range : Range
  pub only : Option (List (List ℕ))

-- Converts the code's `ActionsRequest` to a `VersionedActionsRequest`, for a document of this
-- version.
abbrev pub actions_request_view : ActionsRequest → ℤ → VersionedActionsRequest
actions_request_view r version =
    record {
      id = json_of_id r.id.now;
      client = r.client;
      uri = r.uri.now;
      version = version;
      range = r.range;
      only = action_kinds_view r.only.now;
    }

-- Returns whether this kind of code actions includes inlining: `refactor.inline`, `refactor` or the
-- empty text.
abbrev pub kind_includes_inlining : List ℕ → Bool
kind_includes_inlining kind =
    bytes_eq kind [] || bytes_eq kind (codes "refactor") || bytes_eq kind (codes "refactor.inline")

-- Returns whether the requested kinds of actions include inlining. If there is no list of kinds
-- (None), all kinds are requested.
abbrev pub requested_kinds_include_inlining : Option (List (List ℕ)) → Bool
requested_kinds_include_inlining (Some kinds) = list_any kind_includes_inlining kinds
requested_kinds_include_inlining None = true

-- Returns whether the client accepts literal code actions (which contain their edits) and the
-- requested kinds include inlining. If `only` is None, all kinds are requested.
abbrev pub client_wants_inlining : ClientFeatures → Option (List (List ℕ)) → Bool
client_wants_inlining client only = client.accepts_literal_actions && requested_kinds_include_inlining only

-- Returns whether the client of this request accepts literal code actions and the requested kinds
-- include inlining (`client_wants_inlining`).
abbrev pub wants_inlining : VersionedActionsRequest → Bool
wants_inlining requested = client_wants_inlining requested.client requested.only

-- Returns the byte offset in the text at which actions apply: the offset at which the range starts
-- or ends, whichever is smaller.
abbrev pub first_offset_in_range : Unit → List ℕ → Range → ℕ
first_offset_in_range unit text range =
    min (offset_of (width_of unit) text range.start) (offset_of (width_of unit) text range.end)

-- ---- the message

-- Returns the title of the action that inlines a constant at one use (`OneUse`) or at every use
-- (`Everywhere`).
abbrev pub inlining_title : InliningKind → List ℕ
inlining_title OneUse = codes "Inline here"
inlining_title Everywhere = codes "Inline everywhere"

-- Returns the JSON value of the code action that applies these edits, in the form that the client
-- accepts. The action's title depends on `how`.
abbrev pub inlining_action_value : VersionedActionsRequest → InliningKind → List Edit → Data
inlining_action_value requested how edits =
    code_action_value (workspace_edit_value requested.client requested.uri requested.version edits) (inlining_title how)

-- Returns a list with one item, the JSON value of the code action that applies these edits. If the
-- inlining is refused (the edits are None), the list is empty.
abbrev pub offered_action_values : VersionedActionsRequest → InliningKind → Option (Vec Edit Global) → List Data
offered_action_values requested how (Some edits) = inlining_action_value requested how edits.items ∷ []
offered_action_values requested how None = []

-- Returns the JSON array of the offered actions: to inline a constant at one use, then to inline it
-- everywhere. `here` and `everywhere` are the edits of the two actions. An action whose edits are
-- None isn't offered.
abbrev pub actions_array : VersionedActionsRequest
    → Option (Vec Edit Global)
    → Option (Vec Edit Global)
    → Data
actions_array requested here everywhere =
    array (items_of
    (offered_action_values requested OneUse here ++ offered_action_values requested Everywhere everywhere))

-- States that the request asks for inlining (`wants_inlining`) and that the text is a well-typed
-- module. The JSON value lists the actions that are offered at the first byte offset of the
-- request's range (`first_offset_in_range`). `here` and `everywhere` are the edits of the two
-- actions. The edits of an action that isn't offered are None.
pub record ListsInlinings (unit : Unit) (requested : VersionedActionsRequest) (text : List ℕ)
    (value : Data) : Type 0 where
  pub here : Option (Vec Edit Global)
  pub everywhere : Option (Vec Edit Global)
  pub wanted : wants_inlining requested ≡ true
  pub offers_here : IsInlineResultInText OneUse unit text (first_offset_in_range unit text requested.range) here
  pub offers_everywhere : IsInlineResultInText Everywhere unit text (first_offset_in_range unit text requested.range)
      everywhere
  pub listed : value ≡ actions_array requested here everywhere

-- States that the JSON value is the list of the offered actions (`ListsInlinings`). The list is
-- empty if the request doesn't ask for inlining (`wants_inlining` is false), or if the text isn't a
-- well-typed module.
abbrev pub ListsActions : Unit → VersionedActionsRequest → List ℕ → Data → Type 0
ListsActions unit requested text value =
    ListsInlinings unit requested text value
    ⊎ (((wants_inlining requested ≡ false) ⊎ ¬ IsWellTypedModule (utf8 text))
    × (value ≡ array no_items))

-- States that the message answers the request for code actions in a document with this text.
-- Positions are counted in `unit`.
abbrev pub AnswersActionsRequest : Unit → VersionedActionsRequest → List ℕ → Data → Type 0
AnswersActionsRequest unit requested text message =
    (value : Data)
    × ListsActions unit requested text value
    × (message ≡ result_message requested.id value)

-- States that `content` is the text, as bytes, of a message that answers the request for code
-- actions.
abbrev pub WritesAnswerToActionsRequest : Unit → VersionedActionsRequest → List ℕ → List ℕ → Type 0
WritesAnswerToActionsRequest unit requested text content =
    (message : Data) × AnswersActionsRequest unit requested text message × Writes message content
