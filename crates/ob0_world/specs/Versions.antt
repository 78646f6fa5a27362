-- Defines the versions that answers mention, and a client that compares versions. The model's
-- editor numbers each opening of a document, but LSP has no opening numbers. Versions are enough
-- for a real client, because an answer mentions the document that was asked about, with its version
-- at the time of the request.
use Rattle.std.specs.Prelude.{◌≡◌, ◌⊎◌, ⊤, ℕ, ℤ, List, [], ◌∷◌, All, Bool, Option, Some, None, option_and_then, option_map, if◌then◌else◌, codes}
use Rattle.serde_json.specs.Data.{Data}
use Rattle.serde_json.specs.Find.{get, at, as_array, as_number, as_integer}
use Rattle.ob0_text.specs.declared.position_types.Unit.{Unit}
use Rattle.ob0_rpc.specs.Members.{text_member}
use Rattle.ob0_rpc.specs.Messages.{IsJsonOfContent}
use Rattle.ob0_world_editor.specs.MessagesToServer.{request_number_from_id}
use Rattle.ob0_world_editor.specs.MessagesToEditor.{first_action_with_title, edits_in_answer}
use Rattle.ob0_world_rules.specs.Asks.{Ask, rename, inline_here, inline_all, format}
use Rattle.ob0_world_rules.specs.TextEdits.{Replacement, text_after_edits, whole_text_change}
use Rattle.ob0_world_rules.specs.EditorActs.{ActResult, is_same_version, result_of_changing_text, result_of_applying_answer}
use Rattle.ob0_world_rules.specs.ClientAndServer.{OpenDocument, SentAsk, Editor, sent_ask_with_number, editor_document_with_uri}
use Rattle.ob0_world_rules.specs.Events.{Event}
use Rattle.ob0_world.specs.Worlds.{Connection, IsInitialConnection, IsConnectionCourse}

-- ---- the versions in answers

-- Returns the uri and the version in a document's identifier. Returns None if the uri or the
-- version is missing.
abbrev pub uri_and_version_in_identifier : Data → Option (List ℕ × ℤ)
uri_and_version_in_identifier d =
    option_and_then
    (λ uri. option_map (λ version. (uri, version))
    (option_and_then as_integer (option_and_then as_number (get (codes "version") d))))
    (text_member (codes "uri") d)

-- Returns the uri and the version of the first document in the `documentChanges` of a
-- WorkspaceEdit. Returns None if there is no document, or if its uri or version is missing.
abbrev pub uri_and_version_in_edit : Data → Option (List ℕ × ℤ)
uri_and_version_in_edit edit =
    option_and_then uri_and_version_in_identifier (option_and_then (get (codes "textDocument"))
    (option_and_then (at 0) (get (codes "documentChanges") edit)))

-- Returns the WorkspaceEdit of the first action with this title in a JSON list of code actions.
-- Returns None if no action has this title, or if the action has no edit.
abbrev pub edit_of_action_with_title : List ℕ → Data → Option Data
edit_of_action_with_title title value =
    option_and_then (get (codes "edit")) (option_and_then (first_action_with_title title) (as_array value))

-- Returns the WorkspaceEdit in the result of a request for edits, or None if the result has no
-- WorkspaceEdit. The result of a rename is a WorkspaceEdit. The result of an inlining is a list of
-- actions, each with a WorkspaceEdit. The result of a formatting is a list of edits, without a
-- WorkspaceEdit.
abbrev pub workspace_edit_in_result : Ask → Data → Option Data
workspace_edit_in_result (rename position name) value = Some value
workspace_edit_in_result (inline_here position) value = edit_of_action_with_title (codes "Inline here") value
workspace_edit_in_result (inline_all position) value = edit_of_action_with_title (codes "Inline everywhere") value
workspace_edit_in_result (format indent) value = None

-- Returns the uri and the version that the answer to a request for edits mentions. Returns None if
-- the answer doesn't mention both.
abbrev pub uri_and_version_in_answer : Ask → Data → Option (List ℕ × ℤ)
uri_and_version_in_answer ask answer =
    option_and_then uri_and_version_in_edit
    (option_and_then (workspace_edit_in_result ask) (get (codes "result") answer))

-- states that this request for edits is a formatting request
abbrev pub IsFormatting : Ask → Type 0
IsFormatting (rename position name) = ⊥
IsFormatting (inline_here position) = ⊥
IsFormatting (inline_all position) = ⊥
IsFormatting (format indent) = ⊤

-- States that the answer mentions the request's document, with the version that the document had
-- when the request was sent. Two kinds of answers needn't mention the document: answers without
-- edits, and answers to formatting requests.
abbrev pub MentionsAskedDocument : SentAsk → Data → Type 0
MentionsAskedDocument a answer =
    (uri_and_version_in_answer a.ask answer ≡ Some (a.uri, a.version))
    ⊎ ((edits_in_answer a.uri a.ask answer ≡ []) ⊎ IsFormatting a.ask)

-- States that the content, if it is a JSON value with a number as its id, answers the request with
-- this number and mentions that request's document (`MentionsAskedDocument`). Nothing is stated
-- about any other content.
abbrev pub ContentMentionsAskedDocument : List SentAsk → List ℕ → Type 0
ContentMentionsAskedDocument requested content =
    (answer : Data) (k : ℕ)
    → IsJsonOfContent content (Some answer)
    → option_and_then request_number_from_id (get (codes "id") answer) ≡ Some k
    → (a : SentAsk) × (sent_ask_with_number requested k ≡ Some a) × MentionsAskedDocument a answer

-- States that after any list of events, `ContentMentionsAskedDocument` holds for each content that
-- waits for the editor. So each content mentioned the document while it waited, even if the editor
-- has taken it since.
abbrev pub AnswersMentionVersions : Type 0
AnswersMentionVersions =
    (unit : Unit) (begin : Connection) (events : List Event) (now : Connection)
    → IsInitialConnection unit begin
    → IsConnectionCourse begin events now
    → All (ContentMentionsAskedDocument now.model.editor.requested) now.wire.to_editor

-- ---- a client that compares versions

-- returns whether a document has this version
abbrev pub has_version : ℤ → OpenDocument → Bool
has_version version d = is_same_version d.version version

-- Returns the result of applying an answer's edits in a client that relies on the uri and the
-- version in the answer. The client makes the edits in the open document with this uri. Returns
-- None if no open document has this uri and this version, or if two edits share a character.
abbrev pub result_of_applying_by_version : Editor → List ℕ → ℤ → List Replacement → Option ActResult
result_of_applying_by_version e uri version edits =
    option_and_then
    (λ d. option_and_then
    (λ text. Some (result_of_changing_text e uri d text (whole_text_change text ∷ [])
    (record { uri = uri; before = d.text; after = text } ∷ [])))
    (if has_version version d then text_after_edits e.unit d.text edits else None))
    (editor_document_with_uri e uri)

-- States that the request's document hasn't been opened again since the request. Either it is
-- closed, or it has the opening number that is stored with the request.
abbrev pub IsNotReopened : Editor → SentAsk → Type 0
IsNotReopened e a = (d : OpenDocument) → editor_document_with_uri e a.uri ≡ Some d → d.opening ≡ a.opening

-- States that versions are enough to decide whether to apply an answer's edits. If the document
-- hasn't been opened again since the request, a client that relies on the version in the answer
-- gets the same result as the model's editor.
abbrev pub VersionsSufficeToApplyAnswers : Type 0
VersionsSufficeToApplyAnswers =
    (e : Editor) (k : ℕ) (a : SentAsk) (edits : List Replacement)
    → sent_ask_with_number e.requested k ≡ Some a
    → IsNotReopened e a
    → result_of_applying_by_version e a.uri a.version edits ≡ result_of_applying_answer e k edits
