-- Defines the message that the editor reads in a content: a publication of diagnostics, or the
-- answer to an ask (request for edits). The ask decides how its answer is read.
-- Rule: docs/PROTOCOL.md, JSON shapes 2.
use Rattle.std.specs.Prelude.{ℕ, ℤ, List, [], ◌∷◌, Bool, true, false, Option, Some, None, is_some, option_and_then, option_map, unwrap_or, if◌then◌else◌, codes}
use Rattle.std.specs.Str.{bytes_eq, chars, is_utf8}
use Rattle.serde_json.specs.Data.{Data, Items, no_items, item}
use Rattle.serde_json.specs.Find.{get, at, as_array, as_number, as_i64}
use Rattle.serde_json.specs.Read.{read}
use Rattle.ob0_text.specs.declared.position_types.Range.{Range}
use Rattle.ob0_rpc.specs.Members.{text_member, range_member}
use Rattle.ob0_world_rules.specs.TextEdits.{Replacement}
use Rattle.ob0_world_rules.specs.Asks.{Ask, rename, inline_here, inline_all, format}
use Rattle.ob0_world_rules.specs.ClientAndServer.{SentAsk, sent_ask_with_number, MessageToEditor, publishes, answers}
use Rattle.ob0_world_editor.specs.MessagesToServer.{request_number_from_id}

-- ---- publications

-- returns whether the optional text `found` exists and equals `text`
abbrev pub equals_optional_text : List ℕ → Option (List ℕ) → Bool
equals_optional_text text (Some found) = bytes_eq found text
equals_optional_text text None = false

-- returns whether a JSON list is empty
abbrev pub has_no_items : Items → Bool
has_no_items no_items = true
has_no_items (item d ds) = false

-- Returns the publication with this uri, version and list of diagnostics. Returns None if the uri
-- or the list is None.
abbrev pub publication_if_complete : Option (List ℕ) → Option ℤ → Option Items → Option MessageToEditor
publication_if_complete (Some uri) version (Some diagnostics) =
    Some (publishes uri version (has_no_items diagnostics))
publication_if_complete (Some uri) version None = None
publication_if_complete None version diagnostics = None

-- Reads the params of a notification as a publication. Returns None if the uri or the diagnostics
-- can't be read.
abbrev pub publication_of_params : Data → Option MessageToEditor
publication_of_params params =
    publication_if_complete (text_member (codes "uri") params)
    (option_and_then as_i64 (option_and_then as_number (get (codes "version") params)))
    (option_and_then as_array (get (codes "diagnostics") params))

-- ---- edits

-- Returns the edit with this range and text, or None if either is None.
abbrev pub edit_if_complete : Option Range → Option (List ℕ) → Option Replacement
edit_if_complete (Some range) (Some text) = Some (record { range = range; text = chars text })
edit_if_complete (Some range) None = None
edit_if_complete None text = None

-- Reads a JSON value as an edit. Returns None if the value can't be read as an edit.
abbrev pub edit_of_value : Data → Option Replacement
edit_of_value d = edit_if_complete (range_member (codes "range") d) (text_member (codes "newText") d)

-- Reads each JSON value of a list as an edit, and returns the edits in order. Returns None if one
-- of the values can't be read as an edit.
abbrev pub edits_of_items : Items → Option (List Replacement)
edits_of_items no_items = Some []
edits_of_items (item d ds) = option_and_then (λ e. option_map (λ es. e ∷ es) (edits_of_items ds)) (edit_of_value d)

-- Returns the JSON list of the text edits in a WorkspaceEdit. The third argument is the value of
-- the member `documentChanges`, or None if the member is missing. If the member exists, the list is
-- in its first element, whose uri is ignored. Otherwise the list is in the member `changes`, under
-- this uri. Returns None if the list is missing.
abbrev pub text_edits_given_document_changes : List ℕ → Data → Option Data → Option Items
text_edits_given_document_changes uri edit (Some documents) =
    option_and_then as_array (option_and_then (get (codes "edits")) (at 0 documents))
text_edits_given_document_changes uri edit None =
    option_and_then as_array (option_and_then (get uri) (get (codes "changes") edit))

-- Returns the JSON list of the text edits in a WorkspaceEdit, or None if the list is missing. The
-- uri is used only if the WorkspaceEdit has no member `documentChanges`.
abbrev pub text_edits_in_workspace_edit : List ℕ → Data → Option Items
text_edits_in_workspace_edit uri edit = text_edits_given_document_changes uri edit (get (codes "documentChanges") edit)

-- Returns the first code action with this title in a JSON list, or None if no action has this
-- title.
abbrev pub first_action_with_title : List ℕ → Items → Option Data
first_action_with_title title no_items = None
first_action_with_title title (item d ds) =
    if equals_optional_text title (text_member (codes "title") d) then Some d else first_action_with_title title ds

-- Returns the JSON list of the text edits in the first code action with this title. `value` is the
-- JSON list of the actions. `text_edits_in_workspace_edit` finds the text edits in the action's
-- WorkspaceEdit. Returns None if the action or its list of text edits is missing.
abbrev pub text_edits_in_action : List ℕ → List ℕ → Data → Option Items
text_edits_in_action title uri value =
    option_and_then (text_edits_in_workspace_edit uri)
    (option_and_then (get (codes "edit")) (option_and_then (first_action_with_title title) (as_array value)))

-- Returns the JSON list of the text edits in `value`, the result of an ask (request for edits), or
-- None if the list is missing. The result of a rename is a WorkspaceEdit. The result of an inlining
-- is a list of actions, of which the ask selects one by its title. The result of a formatting is
-- the list of text edits.
abbrev pub text_edits_in_result : List ℕ → Ask → Data → Option Items
text_edits_in_result uri (rename position name) value = text_edits_in_workspace_edit uri value
text_edits_in_result uri (inline_here position) value = text_edits_in_action (codes "Inline here") uri value
text_edits_in_result uri (inline_all position) value = text_edits_in_action (codes "Inline everywhere") uri value
text_edits_in_result uri (format indent) value = as_array value

-- Returns the edits in the answer to an ask (request for edits) about the document with this uri.
-- The list is empty if the answer has no list of edits, for example if it is a refusal or has the
-- result null. The list is also empty if one of the edits can't be read.
abbrev pub edits_in_answer : List ℕ → Ask → Data → List Replacement
edits_in_answer uri ask answer =
    unwrap_or
    (option_and_then edits_of_items (option_and_then (text_edits_in_result uri ask) (get (codes "result") answer))) []

-- Returns the answer to request `k`, with the edits that are read from the JSON value `answer`.
-- Returns None if the editor has sent no request with this number.
abbrev pub answer_to_ask : List SentAsk → Data → ℕ → Option MessageToEditor
answer_to_ask requested answer k =
    option_map (λ a. answers k (edits_in_answer a.uri a.ask answer)) (sent_ask_with_number requested k)

-- Reads a JSON value as the answer to one of the sent requests for edits (`requested`). `number_of`
-- converts the answer's id to the number of the answered request. Returns None if the id is missing
-- or doesn't belong to one of these requests.
abbrev pub answer_of_response : (Data → Option ℕ) → List SentAsk → Data → Option MessageToEditor
answer_of_response number_of requested answer =
    option_and_then (answer_to_ask requested answer)
    (option_and_then number_of (get (codes "id") answer))

-- ---- messages

-- Reads a notification as a publication. Returns None if the method isn't
-- `textDocument/publishDiagnostics`, or if the params can't be read.
abbrev pub publication_of_notification : Data → Option MessageToEditor
publication_of_notification d =
    if equals_optional_text (codes "textDocument/publishDiagnostics") (text_member (codes "method") d)
    then option_and_then publication_of_params (get (codes "params") d) else None

-- Reads a JSON value as a message to the editor: as a publication if it has a member `method`,
-- otherwise as an answer. `number_of` converts an answer's id to the number of the answered
-- request. Returns None if the value can't be read.
abbrev pub message_to_editor_of_value : (Data → Option ℕ) → List SentAsk → Data → Option MessageToEditor
message_to_editor_of_value number_of requested d =
    if is_some (get (codes "method") d)
    then publication_of_notification d else answer_of_response number_of requested d

-- Returns the message to the editor in a content, or None if the content isn't a message to the
-- editor. `requested` lists the requests for edits that the editor has sent. `number_of` converts
-- an answer's id to the number of the answered request.
unfoldable pub message_to_editor_given_numbering : (Data → Option ℕ) → List SentAsk → List ℕ → Option MessageToEditor
message_to_editor_given_numbering number_of requested content =
    if is_utf8 content
    then option_and_then (message_to_editor_of_value number_of requested) (read content) else None

-- Returns the message to the editor in a content, or None if the content isn't a message to the
-- editor. The id of an answer is the number of the answered request for edits.
abbrev pub message_to_editor_in_content : List SentAsk → List ℕ → Option MessageToEditor
message_to_editor_in_content requested content = message_to_editor_given_numbering request_number_from_id requested content
