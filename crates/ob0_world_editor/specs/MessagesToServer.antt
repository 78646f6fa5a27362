-- Defines which message of the model a content to the server means. Notifications are read by the
-- definitions that the server also uses. The id of a request is the number of a sent request for
-- edits.
use Rattle.std.specs.Prelude.{◌≡◌, ⊤, ℕ, List, Option, Some, None, Ok, option_and_then, option_map, if◌then◌else◌}
use Rattle.std.specs.Str.{is_utf8}
use Rattle.serde_json.specs.Data.{Data, null, boolean, number, string, array, object, unsigned, negative, float}
use Rattle.serde_json.specs.Find.{as_i64, of_integer}
use Rattle.serde_json.specs.Read.{read}
use Rattle.ob0_text.specs.OpenDocuments.{DocumentEvent, Opened, Changed, Lost, Closed}
use Rattle.ob0_rpc.specs.Requests as wire
use Rattle.ob0_rpc.specs.Requests.{request_by_method}
use Rattle.ob0_rpc.specs.Messages.{IsJsonOfContent, MessageMeaning, not_json, not_a_message, response, request, notice, meaning_of_message}
use Rattle.ob0_rpc.specs.Notifications.{NotificationMeaning, exits, opens, changes, closes, unreadable, other, notification_by_method}
use Rattle.ob0_world_rules.specs.Asks.{Ask, rename, inline_here, inline_all, format, clamped_indent}
use Rattle.ob0_world_rules.specs.ClientAndServer.{SentAsk, sent_ask_with_number, MessageToServer, notifies, requests}
use Rattle.ob0_world_editor.specs.Shapes.{method_of_ask, empty_range_at}

-- ---- the message to the server in a content; the id of a request is the number of its ask

-- Returns the number of a request whose id is this JSON value. Returns None if the value isn't a
-- whole number, or is negative.
abbrev pub request_number_from_id : Data → Option ℕ
request_number_from_id (number (unsigned k)) = Some k
request_number_from_id (number (negative z)) = None
request_number_from_id (number (float x)) = None
request_number_from_id null = None
request_number_from_id (boolean b) = None
request_number_from_id (string s) = None
request_number_from_id (array ds) = None
request_number_from_id (object ms) = None

-- Returns the message to the server that a notification means. Returns None for three kinds:
-- `exit`, an unreadable notification without a uri, and a notification that the server ignores.
abbrev pub message_of_notification : NotificationMeaning → Option MessageToServer
message_of_notification exits = None
message_of_notification (opens uri version text) = Some (notifies (Opened uri version text))
message_of_notification (changes uri version all) = Some (notifies (Changed uri version all))
message_of_notification (closes uri) = Some (notifies (Closed uri))
message_of_notification (unreadable (Some uri)) = Some (notifies (Lost uri))
message_of_notification (unreadable None) = None
message_of_notification other = None

-- Returns the sent request with this number as a message to the server. Returns None if there is no
-- such request.
abbrev pub message_of_sent_ask : List SentAsk → ℕ → Option MessageToServer
message_of_sent_ask requested k = option_map (λ a. requests k a.uri a.ask) (sent_ask_with_number requested k)

-- Returns the message to the server that a JSON-RPC message means. Returns None if it isn't a
-- message of the model.
abbrev pub message_to_server_of_meaning : List SentAsk → MessageMeaning → Option MessageToServer
message_to_server_of_meaning requested (request id method params) =
    option_and_then (message_of_sent_ask requested) (request_number_from_id id)
message_to_server_of_meaning requested (notice method params) = message_of_notification (notification_by_method method params)
message_to_server_of_meaning requested not_json = None
message_to_server_of_meaning requested not_a_message = None
message_to_server_of_meaning requested response = None

-- Returns the message to the server in a content, or None if the content isn't a message of the
-- model. `requested` lists the requests for edits that the editor has sent.
unfoldable pub message_to_server_in_content : List SentAsk → List ℕ → Option MessageToServer
message_to_server_in_content requested content =
    if is_utf8 content
    then option_and_then (λ d. message_to_server_of_meaning requested (meaning_of_message d)) (read content)
    else None

-- ---- messages as the server reads them, and their contents

-- returns the notification about this event of a document, in the form in which the server reads it
abbrev pub notification_for_event : DocumentEvent → NotificationMeaning
notification_for_event (Opened uri version text) = opens uri version text
notification_for_event (Changed uri version all) = changes uri version all
notification_for_event (Lost uri) = unreadable (Some uri)
notification_for_event (Closed uri) = closes uri

-- returns the request for these edits of the document with this uri, in the form in which the
-- server reads it
abbrev pub client_request_for_ask : List ℕ → Ask → wire.ClientRequest
client_request_for_ask uri (rename position name) = wire.rename (record { uri = uri; position = position }) name
client_request_for_ask uri (inline_here position) = wire.code_action uri (empty_range_at position) None
client_request_for_ask uri (inline_all position) = wire.code_action uri (empty_range_at position) None
client_request_for_ask uri (format indent) = wire.formatting uri (clamped_indent indent)

-- states that the event has no version, or that its version fits into a signed number of 64 bits
abbrev pub HasVersionInRange : DocumentEvent → Type 0
HasVersionInRange (Opened uri version text) = as_i64 (of_integer version) ≡ Some version
HasVersionInRange (Changed uri version all) = as_i64 (of_integer version) ≡ Some version
HasVersionInRange (Lost uri) = ⊤
HasVersionInRange (Closed uri) = ⊤

-- states that the content is the notification for this event
pub record IsNotificationOfEvent (note : DocumentEvent) (content : List ℕ) : Type 0 where
  pub json : Data
  pub reads : IsJsonOfContent content (Some json)
  pub method : List ℕ
  pub params : Data
  pub means : meaning_of_message json ≡ notice method params
  pub reported : notification_by_method method params ≡ notification_for_event note
  pub fits : HasVersionInRange note

-- states that the content is the request for these edits of the document with this uri, and has
-- this id
pub record IsRequestWithId (id : Data) (uri : List ℕ) (ask : Ask) (content : List ℕ)
    : Type 0 where
  pub json : Data
  pub reads : IsJsonOfContent content (Some json)
  pub params : Data
  pub means : meaning_of_message json ≡ request id (method_of_ask ask) params
  pub calls : request_by_method (method_of_ask ask) params ≡ Ok (client_request_for_ask uri ask)

-- states that the content is the request for these edits of the document with this uri, with the
-- number `k` as its id
abbrev pub IsRequestWithNumber : ℕ → List ℕ → Ask → List ℕ → Type 0
IsRequestWithNumber k uri ask content = IsRequestWithId (number (unsigned k)) uri ask content

-- states that the sent request with number `k` asks for these edits (`ask`) of the document with
-- this uri
pub record SentRequestAsksForEdits (requested : List SentAsk) (k : ℕ) (uri : List ℕ) (ask : Ask) : Type 0 where
  pub sent : SentAsk
  pub is : sent_ask_with_number requested k ≡ Some sent
  pub about : sent.uri ≡ uri
  pub same_ask : sent.ask ≡ ask

-- states that the content is this message to the server
abbrev pub IsMessageToServer : List SentAsk → MessageToServer → List ℕ → Type 0
IsMessageToServer requested (notifies note) content = IsNotificationOfEvent note content
IsMessageToServer requested (requests k uri ask) content =
    IsRequestWithNumber k uri ask content × SentRequestAsksForEdits requested k uri ask
