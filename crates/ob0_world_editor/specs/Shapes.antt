-- Defines the messages that an editor writes, as JSON values (LSP 3.17). The comments show the
-- JSON, with letters for the arguments. The members of an object are in the byte order of their
-- names.
use Rattle.std.specs.Prelude.{ℕ, List, true, false, Bool, Option, Some, None, codes, string_bytes}
use Rattle.serde_json.specs.Data.{Data, boolean, number, array, object, unsigned, no_items, member, no_members}
use Rattle.serde_json.specs.View.{items_of}
use Rattle.ob0_text.specs.declared.position_types.Position.{Position}
use Rattle.ob0_text.specs.declared.position_types.Range.{Range}
use Rattle.ob0_text.specs.declared.edits.Change.{Change}
use Rattle.ob0_text.specs.declared.edits.Indent.{Indent}
use Rattle.ob0_text.specs.declared.edits.Indent.TheVariants.{Tab, Spaces}
use Rattle.ob0_rpc.specs.JsonShapes.{text_value, jsonrpc_version, position_value, range_value}
use Rattle.ob0_world_rules.specs.Asks.{Ask, rename, inline_here, inline_all, format}

-- returns a request with the number k as its id: {"id":k,"jsonrpc":"2.0","method":M,"params":P}
abbrev pub request_message : ℕ → List ℕ → Data → Data
request_message k method params =
    object (member (codes "id") (number (unsigned k)) (member (codes "jsonrpc") jsonrpc_version
    (member (codes "method") (text_value method) (member (codes "params") params no_members))))

-- ---- notifications

-- Returns the JSON value of a document that is opened:
-- {"languageId":"oberon-0","text":t,"uri":u,"version":v}
abbrev pub text_document_item_value : List ℕ → ℕ → List ℕ → Data
text_document_item_value uri version contents =
    object (member (codes "languageId") (text_value (codes "oberon-0"))
    (member (codes "text") (text_value contents)
    (member (codes "uri") (text_value uri)
    (member (codes "version") (number (unsigned version)) no_members))))

-- returns the params of `textDocument/didOpen`: {"textDocument":{..}}
abbrev pub did_open_params : List ℕ → ℕ → List ℕ → Data
did_open_params uri version contents =
    object (member (codes "textDocument") (text_document_item_value uri version contents) no_members)

-- returns a change: {"range":R,"text":t}, or {"text":t} if the whole text is replaced
abbrev pub change_value_of_range_and_text : Option Range → List ℕ → Data
change_value_of_range_and_text (Some range) new =
    object (member (codes "range") (range_value range.start range.end)
    (member (codes "text") (text_value new) no_members))
change_value_of_range_and_text None new = object (member (codes "text") (text_value new) no_members)

-- returns the JSON value of a change of the code's type `Change`
abbrev pub change_value : Change → Data
change_value c = change_value_of_range_and_text c.range (string_bytes c.text)

-- returns a document's identifier with a version: {"uri":u,"version":v}
abbrev pub versioned_document_id_value : List ℕ → ℕ → Data
versioned_document_id_value uri version =
    object (member (codes "uri") (text_value uri)
    (member (codes "version") (number (unsigned version)) no_members))

-- Returns the params of `textDocument/didChange`:
-- {"contentChanges":[C,..],"textDocument":{"uri":u,"version":v}}
abbrev pub did_change_params : List ℕ → ℕ → List Data → Data
did_change_params uri version changes =
    object (member (codes "contentChanges") (array (items_of changes))
    (member (codes "textDocument") (versioned_document_id_value uri version) no_members))

-- returns a document's identifier: {"uri":u}
abbrev pub document_id_value : List ℕ → Data
document_id_value uri = object (member (codes "uri") (text_value uri) no_members)

-- returns the params of `textDocument/didClose`: {"textDocument":{"uri":u}}
abbrev pub did_close_params : List ℕ → Data
did_close_params uri = object (member (codes "textDocument") (document_id_value uri) no_members)

-- ---- asks

-- returns the params of a rename: {"newName":n,"position":P,"textDocument":{"uri":u}}
abbrev pub rename_params : List ℕ → Position → List ℕ → Data
rename_params uri position name =
    object (member (codes "newName") (text_value name) (member (codes "position")
    (position_value position) (member (codes "textDocument") (document_id_value uri) no_members)))

-- returns the empty range at a position
abbrev pub empty_range_at : Position → Range
empty_range_at position = record { start = position; end = position }

-- the context of a request for code actions, without diagnostics: {"diagnostics":[]}
abbrev pub context_without_diagnostics : Data
context_without_diagnostics = object (member (codes "diagnostics") (array no_items) no_members)

-- Returns the params of a request for the code actions at a position:
-- {"context":{"diagnostics":[]},"range":R,"textDocument":{"uri":u}}
abbrev pub code_action_params : List ℕ → Position → Data
code_action_params uri position =
    object (member (codes "context") context_without_diagnostics
    (member (codes "range") (range_value position position)
    (member (codes "textDocument") (document_id_value uri) no_members)))

-- returns the JSON value of formatting options: {"insertSpaces":b,"tabSize":n}
abbrev pub formatting_options_value : Bool → ℕ → Data
formatting_options_value spaces size =
    object (member (codes "insertSpaces") (boolean spaces)
    (member (codes "tabSize") (number (unsigned size)) no_members))

-- returns the JSON value of the formatting options for an indent
abbrev pub formatting_options_value_for_indent : Indent → Data
formatting_options_value_for_indent Tab = formatting_options_value false 1
formatting_options_value_for_indent (Spaces n) = formatting_options_value true n

-- returns the params of a formatting request: {"options":{..},"textDocument":{"uri":u}}
abbrev pub formatting_params : List ℕ → Indent → Data
formatting_params uri indent =
    object (member (codes "options") (formatting_options_value_for_indent indent)
    (member (codes "textDocument") (document_id_value uri) no_members))

-- Returns the method of the request for these edits. Both kinds of inlining request the code
-- actions at `position`.
abbrev pub method_of_ask : Ask → List ℕ
method_of_ask (rename position name) = codes "textDocument/rename"
method_of_ask (inline_here position) = codes "textDocument/codeAction"
method_of_ask (inline_all position) = codes "textDocument/codeAction"
method_of_ask (format indent) = codes "textDocument/formatting"

-- returns the params of the request for these edits of the document with this uri
abbrev pub params_of_ask : List ℕ → Ask → Data
params_of_ask uri (rename position name) = rename_params uri position name
params_of_ask uri (inline_here position) = code_action_params uri position
params_of_ask uri (inline_all position) = code_action_params uri position
params_of_ask uri (format indent) = formatting_params uri indent
