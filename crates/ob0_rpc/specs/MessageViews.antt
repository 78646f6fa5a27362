-- Translates the code's messages, requests and notifications into the types of the specs.
-- Rule: none; used in the contracts of functions that read messages.
use Rattle.std.specs.Prelude.{◌≡◌, ℕ, List, Option, Some, None, Result, Ok, Err, string_bytes, String, Vec, map, option_map}
use Rattle.std.specs.Str.{chars}
use Rattle.std.specs.declared.alloc.Global.{Global}
use Rattle.serde_json.specs.Data.{Data, null, number, string, unsigned}
use Rattle.serde_json.specs.Find.{of_integer}
use Rattle.serde_json.specs.View.{view}
use Rattle.ob0_text.specs.OpenDocuments.{text_change_of}
use Rattle.ob0_rpc.specs.Requests.{DocumentPlace, ClientRequest, initialize, shutdown, hover, definition, references, prepare_rename, rename, code_action, formatting}
use Rattle.ob0_rpc.specs.Messages.{IsJsonOfContent, MessageMeaning, not_a_message, response, request, notice, meaning_of_message}
use Rattle.ob0_rpc.specs.Notifications.{NotificationMeaning, exits, opens, changes, closes, unreadable, other, notification_by_method}
use Rattle.ob0_rpc.specs.declared.requests.ClientRequest as called
use Rattle.ob0_rpc.specs.declared.requests.DocumentPosition.{DocumentPosition}
use Rattle.ob0_rpc.specs.declared.incoming_messages.Id.{Id}
use Rattle.ob0_rpc.specs.declared.incoming_messages.Id.TheVariants.{Signed, Unsigned, Text}
use Rattle.ob0_rpc.specs.declared.incoming_messages.Incoming.{Incoming}
use Rattle.ob0_rpc.specs.declared.incoming_messages.Incoming.TheVariants.{Request, Notice, Ignored}
use Rattle.ob0_rpc.specs.declared.incoming_messages.RpcFault.{RpcFault}
use Rattle.ob0_rpc.specs.declared.incoming_messages.RpcFault.TheVariants.{NotJson, NotAMessage, UnknownMethod, BadParams, Memory}
use Rattle.ob0_rpc.specs.declared.notifications.ClientNotification as noted

-- Returns the JSON value of an id.
abbrev pub json_of_id : Id → Data
json_of_id (Signed z) = number (of_integer z)
json_of_id (Unsigned n) = number (unsigned n)
json_of_id (Text t) = string (string_bytes t)

-- Returns the JSON value of the id in an error response. If there is no id (None), the value is
-- null.
abbrev pub id_or_null : Option Id → Data
id_or_null (Some id) = json_of_id id
id_or_null None = null

-- Returns the meaning of a message that the code has read. Ids and params become JSON values, and
-- methods become bytes of UTF-8. `Ignored` means a response.
abbrev pub message_view : Incoming → MessageMeaning
message_view (Request id method params) = request (json_of_id id) (string_bytes method) (view params)
message_view (Notice method params) = notice (string_bytes method) (view params)
message_view Ignored = response

-- States that reading this JSON value may give this result. The result is the message that the
-- value means, or the error `NotAMessage` if the value isn't a message. The error `Memory` (out of
-- memory) is always allowed. No other error is allowed.
abbrev pub InterpretsMessage : Data → Result Incoming RpcFault → Type 0
InterpretsMessage d (Ok incoming) = meaning_of_message d ≡ message_view incoming
InterpretsMessage d (Err NotAMessage) = meaning_of_message d ≡ not_a_message
InterpretsMessage d (Err Memory) = Unit {0}
InterpretsMessage d (Err NotJson) = ⊥
InterpretsMessage d (Err UnknownMethod) = ⊥
InterpretsMessage d (Err BadParams) = ⊥

-- States that reading this content may give this result. If the content isn't JSON, the result is
-- `NotJson`. Otherwise `InterpretsMessage` holds for the content's JSON value and the result. The
-- error `Memory` (out of memory) is always allowed.
abbrev pub ReadsMessage : List ℕ → Result Incoming RpcFault → Type 0
ReadsMessage content (Err NotJson) = IsJsonOfContent content None
ReadsMessage content (Err Memory) = Unit {0}
ReadsMessage content r = (d : Data) × IsJsonOfContent content (Some d) × InterpretsMessage d r

-- Translates the code's `DocumentPosition` into a `DocumentPlace`. The uri becomes bytes of UTF-8.
abbrev pub document_place_view : DocumentPosition → DocumentPlace
document_place_view place = record { uri = string_bytes place.uri; position = place.position }

-- Translates the list of requested kinds of code actions from the code into the specs. Each kind,
-- such as `refactor.inline`, becomes its bytes of UTF-8. None means that all kinds are requested.
abbrev pub action_kinds_view : Option (Vec (String Global) Global) → Option (List (List ℕ))
action_kinds_view kinds = option_map (λ texts. map string_bytes texts.items) kinds

-- Translates the code's `ClientRequest` into the `ClientRequest` of the specs. Texts become bytes
-- of UTF-8.
abbrev pub request_view : called.ClientRequest → ClientRequest
request_view (called.TheVariants.Initialize client) = initialize client
request_view called.TheVariants.Shutdown = shutdown
request_view (called.TheVariants.Hover place) = hover (document_place_view place)
request_view (called.TheVariants.Definition place) = definition (document_place_view place)
request_view (called.TheVariants.References place include) = references (document_place_view place) include
request_view (called.TheVariants.PrepareRename place) = prepare_rename (document_place_view place)
request_view (called.TheVariants.Rename place name) = rename (document_place_view place) (string_bytes name)
request_view (called.TheVariants.CodeAction uri range only) =
    code_action (string_bytes uri) range (action_kinds_view only)
request_view (called.TheVariants.Formatting uri indent) = formatting (string_bytes uri) indent

-- States that the code's result agrees with `requested`, the request or error that the specs
-- define. The error `Memory` (out of memory) is always allowed. The errors `NotJson` and
-- `NotAMessage` are never allowed.
abbrev pub ReadsClientRequest : Result ClientRequest RpcFault → Result called.ClientRequest RpcFault → Type 0
ReadsClientRequest requested (Ok call) = requested ≡ Ok (request_view call)
ReadsClientRequest requested (Err UnknownMethod) = requested ≡ Err UnknownMethod
ReadsClientRequest requested (Err BadParams) = requested ≡ Err BadParams
ReadsClientRequest requested (Err Memory) = Unit {0}
ReadsClientRequest requested (Err NotJson) = ⊥
ReadsClientRequest requested (Err NotAMessage) = ⊥

-- Translates the code's `ClientNotification` into a `NotificationMeaning`. Uris become bytes of
-- UTF-8, and texts of documents become characters.
abbrev pub notification_view : noted.ClientNotification → NotificationMeaning
notification_view noted.TheVariants.Exit = exits
notification_view (noted.TheVariants.Open uri version text) =
    opens (string_bytes uri) version (chars (string_bytes text))
notification_view (noted.TheVariants.Change uri version cs) =
    changes (string_bytes uri) version (map text_change_of cs.items)
notification_view (noted.TheVariants.Close uri) = closes (string_bytes uri)
notification_view (noted.TheVariants.Unreadable uri) = unreadable (option_map string_bytes uri)
notification_view noted.TheVariants.Other = other

-- States that the code's result is the meaning of the notification with this method and these
-- params. The error `Memory` (out of memory) is always allowed. No other error is allowed.
abbrev pub ReadsNotification : List ℕ → Data → Result noted.ClientNotification RpcFault → Type 0
ReadsNotification method params (Ok note) = notification_by_method method params ≡ notification_view note
ReadsNotification method params (Err Memory) = Unit {0}
ReadsNotification method params (Err NotJson) = ⊥
ReadsNotification method params (Err NotAMessage) = ⊥
ReadsNotification method params (Err UnknownMethod) = ⊥
ReadsNotification method params (Err BadParams) = ⊥
