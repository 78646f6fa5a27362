-- Defines the JSON values of the results and notifications that the server writes. The members of
-- an object are in byte order of their names.
-- Rule: docs/PROTOCOL.md, JSON shapes 2, Capabilities.
use Rattle.std.specs.Prelude.{ℕ, ℤ, List, true, Bool, Option, Some, None, if◌then◌else◌, codes, map}
use Rattle.serde_json.specs.Data.{Data, boolean, number, array, object, unsigned, Members, member, no_members, item, no_items}
use Rattle.serde_json.specs.View.{items_of}
use Rattle.ob0_text.specs.declared.position_types.Position.{Position}
use Rattle.ob0_text.specs.declared.position_types.Range.{Range}
use Rattle.ob0_text.specs.declared.edits.Edit.{Edit}
use Rattle.ob0_rpc.specs.Faults.{negative_of}
pub use Rattle.ob0_rpc.specs.JsonShapes.{edit_value}
use Rattle.ob0_rpc.specs.JsonShapes.{text_value, whole_number_value, range_value, error_response_message, notification_message}
use Rattle.ob0_rpc.specs.declared.client_capabilities.ClientFeatures.{ClientFeatures}

-- The value of `textDocumentSync`, {"change":2,"openClose":true}. The 2 asks the client to send
-- each change as a range with its new text.
abbrev pub document_sync_options : Data
document_sync_options =
    object (member (codes "change") (number (unsigned 2))
    (member (codes "openClose") (boolean true) no_members))

-- Returns the value of `renameProvider`: {"prepareProvider":true} for a client that sends
-- `prepareRename` before it requests a rename, otherwise true.
abbrev pub rename_provider : Bool → Data
rename_provider announces_prepare_rename =
    if announces_prepare_rename
    then object (member (codes "prepareProvider") (boolean true) no_members)
    else boolean true

-- The value of `codeActionProvider`, {"codeActionKinds":["refactor.inline"]}.
abbrev pub code_action_options : Data
code_action_options =
    object (member (codes "codeActionKinds")
    (array (item (text_value (codes "refactor.inline")) no_items)) no_members)

-- Returns the last three members of the capabilities: `referencesProvider` (true), `renameProvider`
-- and `textDocumentSync`.
abbrev pub members_after_position_encoding : ClientFeatures → Members
members_after_position_encoding client =
    member (codes "referencesProvider") (boolean true) (member (codes "renameProvider")
    (rename_provider client.prepares_renames)
    (member (codes "textDocumentSync") document_sync_options no_members))

-- Returns the members of the capabilities after `definitionProvider`. The first two are
-- `documentFormattingProvider` and `hoverProvider`, both true. If the client offers UTF-8, the next
-- member is `positionEncoding` ("utf-8"). The last members are `members_after_position_encoding`.
abbrev pub members_after_definition_provider : ClientFeatures → Members
members_after_definition_provider client =
    member (codes "documentFormattingProvider") (boolean true)
    (member (codes "hoverProvider") (boolean true)
    (if client.offers_utf8
    then member (codes "positionEncoding") (text_value (codes "utf-8")) (members_after_position_encoding client)
    else members_after_position_encoding client))

-- Returns the server's capabilities. If the client accepts literal code actions, the first member
-- is `codeActionProvider`. The next members are `definitionProvider` (true) and
-- `members_after_definition_provider`.
abbrev pub server_capabilities : ClientFeatures → Data
server_capabilities client =
    let members = member (codes "definitionProvider") (boolean true) (members_after_definition_provider client) in
    object
    (if client.accepts_literal_actions
    then member (codes "codeActionProvider") code_action_options members
    else members)

-- Returns the result of `initialize`, {"capabilities":{..}}.
abbrev pub initialize_result : ClientFeatures → Data
initialize_result client =
    object (member (codes "capabilities") (server_capabilities client) no_members)

-- ---- diagnostics, locations, edits and refusals

-- A diagnostic: its code, its message, and its start and end.
pub record Diagnostic : Type 0 where
  pub code : List ℕ
  pub message : List ℕ
  pub start : Position
  pub end : Position

-- Returns the JSON value of a location, {"range":R,"uri":u}. `range` is the JSON value of the
-- range.
abbrev pub location_value : List ℕ → Data → Data
location_value uri range =
    object (member (codes "range") range (member (codes "uri") (text_value uri) no_members))

-- Returns the JSON value of the location with this uri and this range.
abbrev pub location_value_of_range : List ℕ → Range → Data
location_value_of_range uri range = location_value uri (range_value range.start range.end)

-- Returns the JSON value of a text that the client displays unchanged,
-- {"kind":"plaintext","value":h}.
abbrev pub plain_text_value : List ℕ → Data
plain_text_value said =
    object (member (codes "kind") (text_value (codes "plaintext"))
    (member (codes "value") (text_value said) no_members))

-- Returns the result of a hover request, {"contents":{..},"range":R}. `said` is the hover text, and
-- `range` is the JSON value of the range.
abbrev pub hover_value : List ℕ → Data → Data
hover_value said range =
    object (member (codes "contents") (plain_text_value said) (member (codes "range") range no_members))

-- Returns the JSON value of a list of edits, `[E,..]`.
abbrev pub edit_list_value : List Edit → Data
edit_list_value es = array (items_of (map edit_value es))

-- Returns the JSON value that identifies a version of a document, {"uri":u,"version":v}.
abbrev pub versioned_document_value : List ℕ → ℤ → Data
versioned_document_value uri version =
    object
    (member (codes "uri") (text_value uri) (member (codes "version") (whole_number_value version) no_members))

-- Returns the JSON value of the edits of one version of a document,
-- {"edits":[E,..],"textDocument":{..}}.
abbrev pub document_edit_value : List ℕ → ℤ → List Edit → Data
document_edit_value uri version es =
    object (member (codes "edits") (edit_list_value es)
    (member (codes "textDocument") (versioned_document_value uri version) no_members))

-- Returns the JSON value of the edits of one document. If the client accepts edits that mention
-- their documents' versions, the value is {"documentChanges":[..]}. Otherwise it is
-- {"changes":{u:[E,..]}}, which has no version.
abbrev pub workspace_edit_value : ClientFeatures → List ℕ → ℤ → List Edit → Data
workspace_edit_value client uri version es =
    if client.accepts_document_changes
    then object (member (codes "documentChanges")
    (array (item (document_edit_value uri version es) no_items)) no_members)
    else object
    (member (codes "changes") (object (member uri (edit_list_value es) no_members)) no_members)

-- Returns the JSON value of a code action with this title,
-- {"edit":W,"kind":"refactor.inline","title":t}. `edit` is the JSON value of the edits that the
-- action applies.
abbrev pub code_action_value : Data → List ℕ → Data
code_action_value edit title =
    object (member (codes "edit") edit (member (codes "kind") (text_value (codes "refactor.inline"))
    (member (codes "title") (text_value title) no_members)))

-- Returns the error response that refuses a request for edits. `said` is the text of the error.
abbrev pub edit_refusal_message : Data → List ℕ → Data
edit_refusal_message id said = error_response_message id (negative_of 32803) said

-- Returns the JSON value of a diagnostic, {"code":name,"message":m,"range":R,"severity":1}.
abbrev pub diagnostic_value : Diagnostic → Data
diagnostic_value d =
    object (member (codes "code") (text_value d.code)
    (member (codes "message") (text_value d.message)
    (member (codes "range") (range_value d.start d.end)
    (member (codes "severity") (number (unsigned 1)) no_members))))

-- Returns the JSON value of a list of diagnostics, `[D,..]`.
abbrev pub diagnostic_list_value : List Diagnostic → Data
diagnostic_list_value ds = array (items_of (map diagnostic_value ds))

-- Returns the params of a publication, {"diagnostics":[D,..],"uri":u,"version":v}. If the version
-- is None (after a close), there is no member `version`.
abbrev pub publication_params : List ℕ → Option ℤ → List Diagnostic → Data
publication_params uri (Some version) ds =
    object (member (codes "diagnostics") (diagnostic_list_value ds) (member (codes "uri") (text_value uri)
    (member (codes "version") (whole_number_value version) no_members)))
publication_params uri None ds =
    object (member (codes "diagnostics") (diagnostic_list_value ds)
    (member (codes "uri") (text_value uri) no_members))

-- Returns the notification `textDocument/publishDiagnostics`, which publishes the diagnostics `ds`
-- of the document with this uri. The version is None if the document was closed.
abbrev pub publication : List ℕ → Option ℤ → List Diagnostic → Data
publication uri version ds =
    notification_message (codes "textDocument/publishDiagnostics")
    (publication_params uri version ds)
