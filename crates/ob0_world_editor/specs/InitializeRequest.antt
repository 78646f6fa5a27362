-- Defines the request `initialize`, which begins a conversation. The comments show the JSON.
-- Rule: LSP 3.17, initialize.
use Rattle.std.specs.Prelude.{true, false, codes}
use Rattle.serde_json.specs.Data.{Data, boolean, string, array, object, no_items, item, Members, member, no_members}
use Rattle.ob0_text.specs.declared.position_types.Unit.{Unit}
use Rattle.ob0_text.specs.declared.position_types.Unit.TheVariants.{Utf16, Utf8}
use Rattle.ob0_text.specs.Units.{is_utf8_unit}
use Rattle.ob0_rpc.specs.declared.client_capabilities.ClientFeatures.{ClientFeatures}

-- the capability to accept literal code actions, which contain their edits:
-- {"codeActionLiteralSupport":{}}
abbrev pub code_action_capability : Data
code_action_capability =
    object (member (codes "codeActionLiteralSupport") (object no_members) no_members)

-- the capabilities for text documents: {"codeAction":{"codeActionLiteralSupport":{}}}
abbrev pub text_document_capabilities : Data
text_document_capabilities = object (member (codes "codeAction") code_action_capability no_members)

-- the capability to accept edits that mention their documents' versions: {"documentChanges":true}
abbrev pub workspace_edit_capability : Data
workspace_edit_capability = object (member (codes "documentChanges") (boolean true) no_members)

-- the capabilities for the workspace: {"workspaceEdit":{"documentChanges":true}}
abbrev pub workspace_capabilities : Data
workspace_capabilities = object (member (codes "workspaceEdit") workspace_edit_capability no_members)

-- the general capabilities, which offer to count positions in bytes of UTF-8:
-- {"positionEncodings":["utf-8"]}
abbrev pub general_capabilities : Data
general_capabilities =
    object
    (member (codes "positionEncodings") (array (item (string (codes "utf-8")) no_items)) no_members)

-- Returns the members of the client's capabilities: `general`, `textDocument` and `workspace`. If
-- positions are counted in UTF-16 units, there is no `general`.
abbrev pub client_capability_members : Unit → Members
client_capability_members Utf16 =
    member (codes "textDocument") text_document_capabilities
    (member (codes "workspace") workspace_capabilities no_members)
client_capability_members Utf8 =
    member (codes "general") general_capabilities (member (codes "textDocument") text_document_capabilities
    (member (codes "workspace") workspace_capabilities no_members))

-- Returns the request `initialize`:
-- {"id":"initialize","jsonrpc":"2.0","method":"initialize","params":{"capabilities":{..}}}
abbrev pub initialize_message : Unit → Data
initialize_message unit =
    object (member (codes "id") (string (codes "initialize"))
    (member (codes "jsonrpc") (string (codes "2.0"))
    (member (codes "method") (string (codes "initialize"))
    (member (codes "params")
    (object (member (codes "capabilities") (object (client_capability_members unit)) no_members))
    no_members))))

-- returns the features that the server reads in the request `initialize` of a client that counts
-- positions in this unit
abbrev pub client_features_for_unit : Unit → ClientFeatures
client_features_for_unit unit =
    record {
      offers_utf8 = is_utf8_unit unit;
      prepares_renames = false;
      accepts_literal_actions = true;
      accepts_document_changes = true;
    }
