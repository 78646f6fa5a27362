-- Defines the meaning of requests, by method and params (LSP 3.17).
-- Rule: docs/PROTOCOL.md, JSON shapes 4, Capabilities; LSP 3.17, requests.
use Rattle.std.specs.Prelude.{ℕ, List, [], ◌∷◌, Bool, false, Option, Some, None, is_some, if◌then◌else◌, ◌||◌, option_map, option_and_then, unwrap_or, codes, Result, Ok, Err}
use Rattle.std.specs.Str.{bytes_eq}
use Rattle.serde_json.specs.Data.{Data, Items, no_items, item}
use Rattle.serde_json.specs.Find.{get, as_str, as_bool, as_array, as_object}
use Rattle.ob0_text.specs.declared.position_types.Position.{Position}
use Rattle.ob0_text.specs.declared.position_types.Range.{Range}
use Rattle.ob0_text.specs.declared.edits.Indent.{Indent}
use Rattle.ob0_text.specs.declared.edits.Indent.TheVariants.{Tab, Spaces}
use Rattle.ob0_text.specs.Indents.{indent_spaces_for_tab_size}
use Rattle.ob0_rpc.specs.Members.{is_absent_or_null, text_member, bool_member, unsigned_member, document_uri, position_member, range_member}
use Rattle.ob0_rpc.specs.declared.client_capabilities.ClientFeatures.{ClientFeatures}
use Rattle.ob0_rpc.specs.declared.incoming_messages.RpcFault.{RpcFault}
use Rattle.ob0_rpc.specs.declared.incoming_messages.RpcFault.TheVariants.{UnknownMethod, BadParams}

-- A position in the document with this uri.
pub record DocumentPlace : Type 0 where
  pub uri : List ℕ
  pub position : Position

-- A request whose method the server knows, with its params. Texts are bytes of UTF-8.
pub data ClientRequest : Type 0 where
  initialize : ClientFeatures → ClientRequest
  shutdown : ClientRequest
  hover : DocumentPlace → ClientRequest
  definition : DocumentPlace → ClientRequest
  -- A request for references. The Bool is true if the declaration is requested as well.
  references : DocumentPlace → Bool → ClientRequest
  prepare_rename : DocumentPlace → ClientRequest
  -- A request to rename the name or field at a position, with the new name.
  rename : DocumentPlace → List ℕ → ClientRequest
  -- A request for code actions: the document, the range, and the requested kinds of actions (None
  -- if all kinds are requested).
  code_action : List ℕ → Range → Option (List (List ℕ)) → ClientRequest
  formatting : List ℕ → Indent → ClientRequest

-- ---- the capabilities of a client

-- Follows a path of member names from `d`, and returns the value at its end. Returns None if a
-- member on the path is absent.
abbrev pub member_at_path : List (List ℕ) → Data → Option Data
member_at_path [] d = Some d
member_at_path (name ∷ names) d = option_and_then (member_at_path names) (get name d)

-- Returns whether the member is the JSON value `true`. Any other member, and an absent member,
-- gives false.
abbrev pub is_true : Option Data → Bool
is_true found = unwrap_or (option_and_then as_bool found) false

-- Returns whether the second argument is a text that equals `text`. For None, returns false.
abbrev pub is_equal_text : List ℕ → Option (List ℕ) → Bool
is_equal_text text None = false
is_equal_text text (Some other) = bytes_eq other text

-- Returns whether one of these JSON values is a JSON string that equals `text`.
abbrev pub contains_text : List ℕ → Items → Bool
contains_text text no_items = false
contains_text text (item d ds) = is_equal_text text (as_str d) || contains_text text ds

-- Returns whether one of these JSON values is a JSON string that equals `text`. For None (there is
-- no list), returns false.
abbrev pub optional_list_contains_text : List ℕ → Option Items → Bool
optional_list_contains_text text None = false
optional_list_contains_text text (Some items) = contains_text text items

-- Returns the capabilities that a client announces in the params of `initialize`. A capability
-- counts as absent if its value, or an object on the path to it, is absent or has another JSON type
-- than expected.
abbrev pub client_features : Data → ClientFeatures
client_features params = record {
  offers_utf8 =
      optional_list_contains_text (codes "utf-8") (option_and_then as_array
      (member_at_path (codes "capabilities" ∷ codes "general" ∷ codes "positionEncodings" ∷ []) params));
  prepares_renames =
      is_true (member_at_path
      (codes "capabilities" ∷ codes "textDocument" ∷ codes "rename" ∷ codes "prepareSupport" ∷ [])
      params);
  accepts_literal_actions =
      is_some (option_and_then as_object (member_at_path (codes "capabilities"
      ∷ codes "textDocument"
      ∷ codes "codeAction"
      ∷ codes "codeActionLiteralSupport"
      ∷ []) params));
  accepts_document_changes =
      is_true (member_at_path (codes "capabilities"
      ∷ codes "workspace"
      ∷ codes "workspaceEdit"
      ∷ codes "documentChanges"
      ∷ []) params);
}

-- Returns the request `initialize` with these params, or None if the params aren't an object.
abbrev pub initialize_request_of : Data → Option ClientRequest
initialize_request_of params =
    if is_some (as_object params) then Some (initialize (client_features params)) else None

-- ---- requests about a document

-- Returns this uri and this position as a `DocumentPlace`, or None if either is None.
abbrev pub document_place_from_parts : Option (List ℕ) → Option Position → Option DocumentPlace
document_place_from_parts (Some uri) (Some position) = Some (record { uri = uri; position = position })
document_place_from_parts (Some uri) None = None
document_place_from_parts None position = None

-- Returns the document's uri and the position that params contain, or None if either can't be read.
abbrev pub document_place_of : Data → Option DocumentPlace
document_place_of params = document_place_from_parts (document_uri params) (position_member (codes "position") params)

-- Returns the request for references at this position, with this value of `includeDeclaration`.
-- Returns None if either is None.
abbrev pub references_request_from_parts : Option DocumentPlace → Option Bool → Option ClientRequest
references_request_from_parts (Some at) (Some include) = Some (references at include)
references_request_from_parts (Some at) None = None
references_request_from_parts None include = None

-- Returns the request `textDocument/references` with these params, or None if the params can't be
-- read.
abbrev pub references_request_of : Data → Option ClientRequest
references_request_of params =
    references_request_from_parts (document_place_of params)
    (option_and_then (bool_member (codes "includeDeclaration")) (get (codes "context") params))

-- Returns the request to rename at this position, with this new name. Returns None if either is
-- None.
abbrev pub rename_request_from_parts : Option DocumentPlace → Option (List ℕ) → Option ClientRequest
rename_request_from_parts (Some at) (Some name) = Some (rename at name)
rename_request_from_parts (Some at) None = None
rename_request_from_parts None name = None

-- Returns the request `textDocument/rename` with these params, or None if the params can't be read.
abbrev pub rename_request_of : Data → Option ClientRequest
rename_request_of params = rename_request_from_parts (document_place_of params) (text_member (codes "newName") params)

-- Returns the items of a list as texts, or None if an item isn't a string.
abbrev pub texts_of_items : Items → Option (List (List ℕ))
texts_of_items no_items = Some []
texts_of_items (item d ds) =
    option_and_then (λ text. option_map (λ texts. text ∷ texts) (texts_of_items ds)) (as_str d)

-- Returns the texts in an optional list. The result Some None means that the list is absent or
-- null. The result None means that the list or one of its items can't be read.
abbrev pub texts_of_optional_list : Option Data → Option (Option (List (List ℕ)))
texts_of_optional_list found =
    if is_absent_or_null found
    then Some None
    else option_map Some (option_and_then texts_of_items (option_and_then as_array found))

-- Returns the kinds of code actions that the object `context` requests. The result Some None means
-- that all kinds are requested. The result None means that the kinds can't be read or the context
-- isn't an object.
abbrev pub requested_action_kinds : Data → Option (Option (List (List ℕ)))
requested_action_kinds context = if is_some (as_object context) then texts_of_optional_list (get (codes "only") context) else None

-- Returns the request for code actions in this document and this range, of these kinds. Returns
-- None if one of the three is None.
abbrev pub code_action_request_from_parts : Option (List ℕ)
    → Option Range
    → Option (Option (List (List ℕ)))
    → Option ClientRequest
code_action_request_from_parts (Some uri) (Some range) (Some only) = Some (code_action uri range only)
code_action_request_from_parts (Some uri) (Some range) None = None
code_action_request_from_parts (Some uri) None only = None
code_action_request_from_parts None range only = None

-- Returns the request `textDocument/codeAction` with these params, or None if the params can't be
-- read.
abbrev pub code_action_request_of : Data → Option ClientRequest
code_action_request_of params =
    code_action_request_from_parts (document_uri params) (range_member (codes "range") params)
    (option_and_then requested_action_kinds (get (codes "context") params))

-- Returns the indentation for these values of `tabSize` and `insertSpaces`, or None if either is
-- None. If `insertSpaces` is true, one level of indentation is `indent_spaces_for_tab_size size`
-- spaces, otherwise one tab.
abbrev pub indent_from_parts : Option ℕ → Option Bool → Option Indent
indent_from_parts (Some size) (Some spaces) = Some (if spaces then Spaces (indent_spaces_for_tab_size size) else Tab)
indent_from_parts (Some size) None = None
indent_from_parts None spaces = None

-- Returns the indentation that formatting options request, or None if the options can't be read.
abbrev pub requested_indent : Data → Option Indent
requested_indent options =
    indent_from_parts (unsigned_member (codes "tabSize") options) (bool_member (codes "insertSpaces") options)

-- Returns the request to format the document with this uri, with this indentation. Returns None if
-- either is None.
abbrev pub formatting_request_from_parts : Option (List ℕ) → Option Indent → Option ClientRequest
formatting_request_from_parts (Some uri) (Some indent) = Some (formatting uri indent)
formatting_request_from_parts (Some uri) None = None
formatting_request_from_parts None indent = None

-- Returns the request `textDocument/formatting` with these params, or None if the params can't be
-- read.
abbrev pub formatting_request_of : Data → Option ClientRequest
formatting_request_of params =
    formatting_request_from_parts (document_uri params) (option_and_then requested_indent (get (codes "options") params))

-- ---- requests by their methods

-- Returns this request as the result `Ok`. For None, returns the fault `BadParams`.
abbrev pub request_or_bad_params : Option ClientRequest → Result ClientRequest RpcFault
request_or_bad_params (Some ask) = Ok ask
request_or_bad_params None = Err BadParams

-- Returns the request about a document with this method and these params. Returns `UnknownMethod`
-- if the method is unknown, and `BadParams` if the params can't be read.
abbrev pub document_request_by_method : List ℕ → Data → Result ClientRequest RpcFault
document_request_by_method method params =
    if bytes_eq method (codes "textDocument/hover") then request_or_bad_params (option_map hover (document_place_of params))
    else if bytes_eq method (codes "textDocument/definition")
    then request_or_bad_params (option_map definition (document_place_of params))
    else if bytes_eq method (codes "textDocument/references") then request_or_bad_params (references_request_of params)
    else if bytes_eq method (codes "textDocument/prepareRename")
    then request_or_bad_params (option_map prepare_rename (document_place_of params))
    else if bytes_eq method (codes "textDocument/rename") then request_or_bad_params (rename_request_of params)
    else if bytes_eq method (codes "textDocument/codeAction") then request_or_bad_params (code_action_request_of params)
    else if bytes_eq method (codes "textDocument/formatting") then request_or_bad_params (formatting_request_of params)
    else Err UnknownMethod

-- Returns the request with this method and these params. Returns `UnknownMethod` if the method is
-- unknown, and `BadParams` if the params can't be read. `shutdown` accepts any params.
abbrev pub request_by_method : List ℕ → Data → Result ClientRequest RpcFault
request_by_method method params =
    if bytes_eq method (codes "initialize") then request_or_bad_params (initialize_request_of params)
    else if bytes_eq method (codes "shutdown") then Ok shutdown
    else document_request_by_method method params
