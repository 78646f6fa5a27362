-- Defines the JSON values of the messages that the server writes. The members of an object are in
-- byte order of their names.
-- Rule: docs/PROTOCOL.md, JSON shapes 2; JSON-RPC 2.0, response object.
use Rattle.std.specs.Prelude.{ℕ, ℤ, List, codes, string_bytes}
use Rattle.serde_json.specs.Data.{Data, number, string, object, unsigned, member, no_members}
use Rattle.serde_json.specs.Find.{of_integer}
use Rattle.ob0_text.specs.declared.edits.Edit.{Edit}
use Rattle.ob0_text.specs.declared.position_types.Position.{Position}

-- Returns the JSON value of a text.
abbrev pub text_value : List ℕ → Data
text_value = string

-- Returns the JSON value of a whole number.
abbrev pub whole_number_value : ℤ → Data
whole_number_value z = number (of_integer z)

-- The value of the member `jsonrpc`: the version of the protocol, "2.0".
abbrev pub jsonrpc_version : Data
jsonrpc_version = text_value (codes "2.0")

-- Returns the message that answers a request, {"id":I,"jsonrpc":"2.0","result":X}, from the JSON
-- values of the id and of the result.
abbrev pub result_message : Data → Data → Data
result_message id value =
    object (member (codes "id") id
    (member (codes "jsonrpc") jsonrpc_version (member (codes "result") value no_members)))

-- Returns the error object of an error response, {"code":c,"message":m}.
abbrev pub error_value : ℤ → List ℕ → Data
error_value code said =
    object
    (member (codes "code") (whole_number_value code) (member (codes "message") (text_value said) no_members))

-- Returns an error response, {"error":{..},"id":I,"jsonrpc":"2.0"}, from the JSON value of the id,
-- the error code and the error's message.
abbrev pub error_response_message : Data → ℤ → List ℕ → Data
error_response_message id code said =
    object (member (codes "error") (error_value code said)
    (member (codes "id") id (member (codes "jsonrpc") jsonrpc_version no_members)))

-- Returns the message of a notification, {"jsonrpc":"2.0","method":M,"params":P}.
abbrev pub notification_message : List ℕ → Data → Data
notification_message method params =
    object (member (codes "jsonrpc") jsonrpc_version
    (member (codes "method") (text_value method) (member (codes "params") params no_members)))

-- Returns the JSON value of a position, {"character":c,"line":l}.
abbrev pub position_value : Position → Data
position_value p =
    object (member (codes "character") (number (unsigned p.character))
    (member (codes "line") (number (unsigned p.line)) no_members))

-- Returns the JSON value of a range, {"end":P,"start":P}.
abbrev pub range_value : Position → Position → Data
range_value start end =
    object (member (codes "end") (position_value end)
    (member (codes "start") (position_value start) no_members))

-- Returns the JSON value of an edit, {"newText":t,"range":R}.
abbrev pub edit_value : Edit → Data
edit_value e =
    object (member (codes "newText") (text_value (string_bytes e.text))
    (member (codes "range") (range_value e.range.start e.range.end) no_members))
