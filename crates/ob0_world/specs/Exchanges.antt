-- Defines the exchanges between a session and an editor that keeps ob0's rules, and states the
-- guarantees for exchanges. An exchange is like a state of the model (`EditorAndServer`), with a
-- session instead of the model's server and contents instead of messages. A content is the bytes of
-- one message. The session may be any session that the protocol (`Answers`) allows. An ask is a
-- request for edits, which the editor may apply: a rename, an inlining or a formatting.
use Rattle.std.specs.Prelude.{◌≡◌, ◌==◌, ◌&&◌, ◌||◌, nat_lt, map, filter_map, ⊤, ℕ, ℤ, List, [], ◌∷◌, ◌++◌, All, fold, Bool, true, false, Option, Some, None, MatchOption, option_map, option_and_then, Result, Ok, Err, if◌then◌else◌, codes}
use Rattle.std.specs.Str.{bytes_eq}
use Rattle.serde_json.specs.Data.{Data, null, boolean, number, string, array, object, unsigned, negative, float}
use Rattle.ob0_text.specs.declared.position_types.Position.{Position}
use Rattle.ob0_text.specs.declared.position_types.Range.{Range}
use Rattle.ob0_text.specs.declared.position_types.Unit.{Unit}
use Rattle.ob0_text.specs.OpenDocuments.{document_at}
use Rattle.ob0_rpc.specs.declared.client_capabilities.ClientFeatures.{ClientFeatures}
use Rattle.ob0_rpc.specs.declared.incoming_messages.RpcFault.{RpcFault}
use Rattle.ob0_rpc.specs.Messages.{IsJsonOfContent, MessageMeaning, not_json, not_a_message, response, request, notice, meaning_of_message}
use Rattle.ob0_rpc.specs.Notifications.{other, notification_by_method}
use Rattle.ob0_rpc.specs.JsonShapes.{result_message}
use Rattle.ob0_rpc.specs.Requests as asked
use Rattle.ob0_rpc.specs.Requests.{ClientRequest, request_by_method}
use Rattle.ob0_session_answers.specs.Actions.{requested_kinds_include_inlining}
use Rattle.ob0_session_server.specs.Answers as server
use Rattle.ob0_session_server.specs.Answers.{ServerState, state_after_initialize, SendsMessage, IsConversation}
use Rattle.ob0_session_server.specs.declared.session.Phase.TheVariants.{Ended}
use Rattle.ob0_session_server.specs.ClientUnits.{unit_for_client}
use Rattle.ob0_world_editor.specs.MessagesToServer.{message_to_server_in_content, IsNotificationOfEvent, IsRequestWithId, SentRequestAsksForEdits}
use Rattle.ob0_world_editor.specs.MessagesToEditor.{message_to_editor_in_content, message_to_editor_given_numbering}
use Rattle.ob0_world_rules.specs.Asks.{Ask, rename, inline_here, inline_all, format}
use Rattle.ob0_world_rules.specs.ClientAndServer.{OpenDocument, SentAsk, Editor, new_editor, editor_document_with_uri, MessageToServer, notifies, requests, MessageToEditor, publishes, answers, AppliedEdit, documents_after_message}
use Rattle.ob0_world_rules.specs.EditorActs.{ActResult, editor_after_message}
use Rattle.ob0_world_rules.specs.EditorMoves.{IsAllowedMove}
use Rattle.ob0_world_rules.specs.EveryEditor.{EditorAndServer, initial_editor_and_server, ExchangeTurn, editor_moves, editor_sends_unmodeled_message, server_takes_message, editor_takes_message, IsCourseOfTurns, GuaranteesHoldForEditorAndServer}
use Rattle.ob0_world_rules.specs.Answers.{NoDiagnosticsExactlyIfWellTyped}
use Rattle.ob0_world_rules.specs.Headline.{PreservesRun}
use Rattle.ob0_world_rules.specs.MirroredDocuments.{in_step_document}
use Rattle.ob0_world_rules.specs.PublicationsAreInOrder.{AnnouncedDocument, uris_and_versions_announced_in_queue, uri_and_version_of}
use Rattle.ob0_world_rules.specs.Events.{Event}
use Rattle.ob0_world.specs.Worlds.{Wire, Connection, IsInitialConnection, IsConnectionCourse, SessionTakesFirstContent}

-- ---- the ids of requests

-- a request's id: a whole number that isn't negative, or a string, given by its bytes (JSON-RPC
-- 2.0, request object)
pub data RequestId : Type 0 where
  number_id : ℕ → RequestId
  text_id : List ℕ → RequestId

-- Converts a JSON value to a request's id. Returns None if the value is neither a string nor a
-- whole number of at least 0.
abbrev pub id_of_value : Data → Option RequestId
id_of_value (number (unsigned n)) = Some (number_id n)
id_of_value (number (negative z)) = None
id_of_value (number (float x)) = None
id_of_value null = None
id_of_value (boolean b) = None
id_of_value (string text) = Some (text_id text)
id_of_value (array ds) = None
id_of_value (object ms) = None

-- returns whether the two ids are equal
abbrev pub is_same_id : RequestId → RequestId → Bool
is_same_id (number_id n) (number_id m) = n == m
is_same_id (number_id n) (text_id t) = false
is_same_id (text_id s) (number_id m) = false
is_same_id (text_id s) (text_id t) = bytes_eq s t

-- The id of a request that the editor sent. `ask` is the number of the ask (request for edits),
-- counted from 1. It is None for any other request, such as a hover request.
pub record SentRequestId : Type 0 where
  pub id : RequestId
  pub ask : Option ℕ

-- Looks up the first sent request with this id. If it is the ask (request for edits) with number
-- `k`, returns `Some (Some k)`. If it isn't an ask, returns `Some None`. If no request has this id,
-- returns None.
abbrev pub ask_number_of_request_id : List SentRequestId → RequestId → Option (Option ℕ)
ask_number_of_request_id [] id = None
ask_number_of_request_id (s ∷ sent) id = if is_same_id s.id id then Some s.ask else ask_number_of_request_id sent id

-- Returns the number of the ask (request for edits) that has this JSON value as its id. Returns
-- None if no request has this id, or if the first request with this id isn't an ask.
abbrev pub ask_number_of_json_id : List SentRequestId → Data → Option ℕ
ask_number_of_json_id sent id = option_and_then (λ ask. ask) (option_and_then (ask_number_of_request_id sent) (id_of_value id))

-- States that each ask (request for edits) among the messages `sent` gets a new id. No request in
-- `ids` and no earlier ask in `sent` has this id. The list `new` is `ids` with the ids of these
-- asks appended, in order.
abbrev pub AssignsAskIds : List SentRequestId → List MessageToServer → List SentRequestId → Type 0
AssignsAskIds ids [] new = new ≡ ids
AssignsAskIds ids (notifies note ∷ sent) new = AssignsAskIds ids sent new
AssignsAskIds ids (requests k uri ask ∷ sent) new =
    (id : RequestId)
    × (ask_number_of_request_id ids id ≡ None)
    × AssignsAskIds (ids ++ record { id = id; ask = Some k } ∷ []) sent new

-- Appends this id to `ids`, as the id of a request that isn't an ask (a request for edits). If the
-- message has no valid id (None), the list is unchanged.
abbrev pub ids_with_non_ask_id : List SentRequestId → Option RequestId → List SentRequestId
ids_with_non_ask_id ids None = ids
ids_with_non_ask_id ids (Some id) = ids ++ record { id = id; ask = None } ∷ []

-- States that the first request in `ids` with this id isn't an ask (a request for edits). If no
-- request in `ids` has the id, this is false. If the message has no valid id (None), it is true.
abbrev pub IsNonAskId : List SentRequestId → Option RequestId → Type 0
IsNonAskId ids None = ⊤
IsNonAskId ids (Some id) = ask_number_of_request_id ids id ≡ Some None

-- ---- an editor and a session

-- An editor and a session, with the contents of the messages between them. `ids` lists the ids of
-- the requests that the editor sent. `announced` lists the documents that the editor announced to
-- the session, and `applied` lists the edits that it applied.
pub record Exchange : Type 0 where
  pub editor : Editor
  pub ids : List SentRequestId
  pub wire : Wire
  pub announced : List AnnouncedDocument
  pub applied : List AppliedEdit

-- States that neither the editor nor the session has made a step in `x` since a client that counts
-- positions in `unit` initialized the session. No document is open and no content waits. The list
-- of ids is empty, so the ids of the initialization may be used again.
pub record IsInitialExchange (unit : Unit) (x : Exchange) : Type 0 where
  pub client : ClientFeatures
  pub counts : unit_for_client client ≡ unit
  pub taken : List (List ℕ)
  pub got : List (List ℕ)
  pub initialized : IsConversation server.initial_server_state taken got (state_after_initialize client)
  pub is : x
      ≡ record {
        editor = new_editor unit;
        ids = [];
        wire = record {
          session = state_after_initialize client;
          taken = taken;
          to_server = [];
          got = got;
          to_editor = [];
        };
        announced = [];
        applied = [];
      }

-- ---- messages outside the model, such as a hover request

-- States that the request changes nothing in the session: it is neither `initialize` nor
-- `shutdown`. A request for edits also changes nothing, because the session only answers it. An
-- unreadable request (Err) is refused and changes nothing.
abbrev pub IsReadOnlyRequest : Result ClientRequest RpcFault → Type 0
IsReadOnlyRequest (Ok (asked.initialize client)) = ⊥
IsReadOnlyRequest (Ok asked.shutdown) = ⊥
IsReadOnlyRequest (Ok (asked.hover at)) = ⊤
IsReadOnlyRequest (Ok (asked.definition at)) = ⊤
IsReadOnlyRequest (Ok (asked.references at include)) = ⊤
IsReadOnlyRequest (Ok (asked.prepare_rename at)) = ⊤
IsReadOnlyRequest (Ok (asked.rename at name)) = ⊤
IsReadOnlyRequest (Ok (asked.code_action uri range only)) = ⊤
IsReadOnlyRequest (Ok (asked.formatting uri indent)) = ⊤
IsReadOnlyRequest (Err fault) = ⊤

-- States that the message is outside the model: a response, JSON that isn't a message, a
-- notification that the server ignores, or a request that changes nothing in the session. A request
-- must have a method other than `initialize`, and its id mustn't be the id of a request for edits
-- (`IsNonAskId`).
abbrev pub IsUnmodeledMessage : List SentRequestId → MessageMeaning → Type 0
IsUnmodeledMessage ids not_json = ⊥
IsUnmodeledMessage ids not_a_message = ⊤
IsUnmodeledMessage ids response = ⊤
IsUnmodeledMessage ids (request id method params) =
    (bytes_eq method (codes "initialize") ≡ false)
    × IsReadOnlyRequest (request_by_method method params)
    × IsNonAskId ids (id_of_value id)
IsUnmodeledMessage ids (notice method params) = notification_by_method method params ≡ other

-- states that the content is a message outside the model (`IsUnmodeledMessage`)
abbrev pub IsUnmodeledContent : List SentRequestId → List ℕ → Type 0
IsUnmodeledContent ids content =
    (json : Data) × IsJsonOfContent content (Some json) × IsUnmodeledMessage ids (meaning_of_message json)

-- ---- messages of the model: asks and notifications

-- returns whether position `p` is before position `q` in a text
abbrev pub is_before : Position → Position → Bool
is_before p q = nat_lt p.line q.line || (p.line == q.line && nat_lt p.character q.character)

-- returns the position at which a range begins: the earlier one of its two positions
abbrev pub first_position : Range → Position
first_position range = if is_before range.end range.start then range.end else range.start

-- States that the content is a request for code actions, with this id, in a range that begins at
-- this position. The request is for all kinds of actions, or for kinds that include inlining. (One
-- for other kinds lists no action, so it counts as a message outside the model.)
pub record IsCodeActionRequest (id : Data) (uri : List ℕ) (position : Position) (content : List ℕ)
    : Type 0 where
  pub json : Data
  pub reads : IsJsonOfContent content (Some json)
  pub params : Data
  pub means : meaning_of_message json
      ≡ request id (codes "textDocument/codeAction") params
  pub range : Range
  pub only : Option (List (List ℕ))
  pub calls : request_by_method (codes "textDocument/codeAction") params
      ≡ Ok (asked.code_action uri range only)
  pub from : first_position range ≡ position
  pub allowed : requested_kinds_include_inlining only ≡ true

-- States that the content is the request, with this id, for these edits of the document with this
-- uri. An inlining is requested by a request for code actions.
abbrev pub IsRequestForAsk : Data → List ℕ → Ask → List ℕ → Type 0
IsRequestForAsk id uri (rename position name) content =
    IsRequestWithId id uri (rename position name) content
IsRequestForAsk id uri (inline_here position) content = IsCodeActionRequest id uri position content
IsRequestForAsk id uri (inline_all position) content = IsCodeActionRequest id uri position content
IsRequestForAsk id uri (format indent) content = IsRequestWithId id uri (format indent) content

-- states that the client accepts literal code actions, which contain their edits
abbrev pub ClientAcceptsLiteralActions : ClientFeatures → Type 0
ClientAcceptsLiteralActions client = client.accepts_literal_actions ≡ true

-- States that the client accepts the edits that answer this ask (request for edits). For an
-- inlining, it must accept literal code actions (`ClientAcceptsLiteralActions`). For any other ask there
-- is no condition.
abbrev pub ClientAcceptsEditsForAsk : ClientFeatures → Ask → Type 0
ClientAcceptsEditsForAsk client (rename position name) = ⊤
ClientAcceptsEditsForAsk client (inline_here position) = ClientAcceptsLiteralActions client
ClientAcceptsEditsForAsk client (inline_all position) = ClientAcceptsLiteralActions client
ClientAcceptsEditsForAsk client (format indent) = ⊤

-- states that the sent request with number `k` asks for these edits (`ask`) of the document with
-- this uri, and that it has this id
pub record IsAskWithId (ids : List SentRequestId) (requested : List SentAsk) (id : Data) (k : ℕ)
    (uri : List ℕ) (ask : Ask) : Type 0 where
  pub numbered : ask_number_of_json_id ids id ≡ Some k
  pub is : SentRequestAsksForEdits requested k uri ask

-- States that the content is this message, sent to a session whose client has these features. If
-- the message is a request for edits, the client must accept the edits (`ClientAcceptsEditsForAsk`).
abbrev pub IsMessageToSession : ClientFeatures
    → List SentRequestId
    → List SentAsk
    → MessageToServer
    → List ℕ
    → Type 0
IsMessageToSession client ids requested (notifies note) content = IsNotificationOfEvent note content
IsMessageToSession client ids requested (requests k uri ask) content =
    (id : Data)
    × IsRequestForAsk id uri ask content
    × IsAskWithId ids requested id k uri ask
    × ClientAcceptsEditsForAsk client ask

-- States that there are as many contents as messages, and that the n-th content is the n-th
-- message. If the n-th message is None, the n-th content is a message outside the model.
abbrev pub AreMessagesToSession : ClientFeatures
    → List SentRequestId
    → List SentAsk
    → List (Option MessageToServer)
    → List (List ℕ)
    → Type 0
AreMessagesToSession client ids requested [] [] = ⊤
AreMessagesToSession client ids requested (Some m ∷ messages) (content ∷ contents) =
    IsMessageToSession client ids requested m content
    × AreMessagesToSession client ids requested messages contents
AreMessagesToSession client ids requested (None ∷ messages) (content ∷ contents) =
    IsUnmodeledContent ids content × AreMessagesToSession client ids requested messages contents
AreMessagesToSession client ids requested [] (content ∷ contents) = ⊥
AreMessagesToSession client ids requested (Some m ∷ messages) [] = ⊥
AreMessagesToSession client ids requested (None ∷ messages) [] = ⊥

-- ---- turns, and the exchanges to which they lead

-- Returns the message that the editor reads in a content, or None if the content isn't a message to
-- the editor. `ids` maps the id in an answer to the number of the request that it answers.
abbrev pub message_to_editor_given_ids : List SentRequestId → List SentAsk → List ℕ → Option MessageToEditor
message_to_editor_given_ids ids requested content = message_to_editor_given_numbering (ask_number_of_json_id ids) requested content

-- Returns the editor after it has read this message, or the unchanged editor for None (no message).
-- The editor stores each answer that has edits, and nothing else.
abbrev pub editor_after_optional_message : Editor → Option MessageToEditor → Editor
editor_after_optional_message e None = e
editor_after_optional_message e (Some message) = editor_after_message e message

-- States that the editor takes the first waiting content, and reads the content's message if it has
-- one. If no content waits for the editor, nothing changes.
abbrev pub EditorReadsFirstContent : List (List ℕ) → Exchange → Exchange → Type 0
EditorReadsFirstContent [] old new = new ≡ old
EditorReadsFirstContent (content ∷ rest) old new =
    new
    ≡ record old {
      editor = editor_after_optional_message old.editor (message_to_editor_given_ids old.ids old.editor.requested content);
      wire = record old.wire { got = old.wire.got ++ content ∷ []; to_editor = rest };
    }

-- returns the wire with these contents appended to `to_server`, the queue of contents for the
-- session
abbrev pub wire_with_queued_contents : Wire → List (List ℕ) → Wire
wire_with_queued_contents wire contents = record wire { to_server = wire.to_server ++ contents }

-- states that this turn (`ExchangeTurn`) may lead from the exchange `old` to the exchange `new`
abbrev pub ExchangeTakesTurn : Exchange → ExchangeTurn → Exchange → Type 0
ExchangeTakesTurn old (editor_moves move) new =
    (done : ActResult)
    × (announced : List AnnouncedDocument)
    × (ids : List SentRequestId)
    × (contents : List (List ℕ))
    × IsAllowedMove old.editor move done announced
    × AssignsAskIds old.ids done.sent ids
    × AreMessagesToSession old.wire.session.client ids done.editor.requested
    (map Some done.sent) contents
    × (new
    ≡ record {
      editor = done.editor;
      ids = ids;
      wire = wire_with_queued_contents old.wire contents;
      announced = old.announced ++ announced;
      applied = old.applied ++ done.applied;
    })
ExchangeTakesTurn old editor_sends_unmodeled_message new =
    (id : Option RequestId)
    × (content : List ℕ)
    × IsUnmodeledContent (ids_with_non_ask_id old.ids id) content
    × (new
    ≡ record old {
      ids = ids_with_non_ask_id old.ids id;
      wire = wire_with_queued_contents old.wire (content ∷ []);
    })
ExchangeTakesTurn old server_takes_message new =
    (wire : Wire)
    × SessionTakesFirstContent old.wire.to_server old.wire wire
    × (new ≡ record old { wire = wire })
ExchangeTakesTurn old editor_takes_message new = EditorReadsFirstContent old.wire.to_editor old new

-- states that these turns, one after another, may lead from the exchange `old` to the exchange
-- `new`
abbrev pub IsExchangeCourse : Exchange → List ExchangeTurn → Exchange → Type 0
IsExchangeCourse old [] new = new ≡ old
IsExchangeCourse old (turn ∷ turns) new =
    (between : Exchange) × ExchangeTakesTurn old turn between × IsExchangeCourse between turns new

-- ---- the law that every exchange follows the model

-- states that the editor reads no message in the content, whatever requests the editor sends later
abbrev pub NeverMeansMessageToEditor : List SentRequestId → List ℕ → Type 0
NeverMeansMessageToEditor ids content =
    (later : List SentRequestId) (requested : List SentAsk)
    → message_to_editor_given_ids (ids ++ later) requested content ≡ None

-- States that there are as many contents as messages, and that the editor reads the n-th message in
-- the n-th content. If the n-th message is None, the editor never reads a message in the n-th
-- content.
abbrev pub AreMessagesToEditor : List SentRequestId
    → List SentAsk
    → List (Option MessageToEditor)
    → List (List ℕ)
    → Type 0
AreMessagesToEditor ids requested [] [] = ⊤
AreMessagesToEditor ids requested (Some m ∷ messages) (content ∷ contents) =
    (message_to_editor_given_ids ids requested content ≡ Some m) × AreMessagesToEditor ids requested messages contents
AreMessagesToEditor ids requested (None ∷ messages) (content ∷ contents) =
    NeverMeansMessageToEditor ids content × AreMessagesToEditor ids requested messages contents
AreMessagesToEditor ids requested [] (content ∷ contents) = ⊥
AreMessagesToEditor ids requested (Some m ∷ messages) [] = ⊥
AreMessagesToEditor ids requested (None ∷ messages) [] = ⊥

-- States that these turns may lead the model (`EditorAndServer`) to a state that matches the
-- exchange `x`. The state and the exchange have the same editor, and the session has the documents
-- of the model's server. The waiting contents are the messages that wait in the model. The
-- guarantees (`GuaranteesHoldForEditorAndServer`) hold for this state.
pub record FollowsModel (unit : Unit) (turns : List ExchangeTurn) (x : Exchange) : Type 0 where
  pub model : EditorAndServer
  pub leads : IsCourseOfTurns (initial_editor_and_server unit) turns model
  pub editor : model.editor ≡ x.editor
  pub held : model.held ≡ x.wire.session.held
  pub announced : model.announced ≡ x.announced
  pub applied : model.applied ≡ x.applied
  pub says : AreMessagesToSession x.wire.session.client x.ids x.editor.requested model.to_server
      x.wire.to_server
  pub means : AreMessagesToEditor x.ids x.editor.requested model.to_editor x.wire.to_editor
  pub holds : GuaranteesHoldForEditorAndServer model
  -- the session has taken and sent these contents in one conversation, from the session's start
  pub conversation : IsConversation server.initial_server_state x.wire.taken (x.wire.got ++ x.wire.to_editor)
      x.wire.session

-- states that every exchange of a session and an editor that keeps ob0's rules follows the model
-- (`FollowsModel`)
abbrev pub EveryExchangeFollowsModel : Type 0
EveryExchangeFollowsModel =
    (unit : Unit) (begin now : Exchange) (turns : List ExchangeTurn)
    → IsInitialExchange unit begin
    → IsExchangeCourse begin turns now
    → FollowsModel unit turns now

-- ---- the end of a session: `shutdown` and `exit`

-- states that the content is the request `shutdown` with this id
pub record IsShutdownRequest (id : Data) (content : List ℕ) : Type 0 where
  pub json : Data
  pub reads : IsJsonOfContent content (Some json)
  pub params : Data
  pub means : meaning_of_message json ≡ request id (codes "shutdown") params

-- states that the content is the notification `exit`
pub record IsExitNotification (content : List ℕ) : Type 0 where
  pub json : Data
  pub reads : IsJsonOfContent content (Some json)
  pub params : Data
  pub means : meaning_of_message json ≡ notice (codes "exit") params

-- States that the session has sent only the answer to the `shutdown` request with this id. The
-- session has ended with status 0, and its documents are unchanged.
pub record EndsAfterShutdown (id : Data) (before : ServerState) (sent : List (List ℕ)) (end : ServerState)
    : Type 0 where
  pub answer : SendsMessage (result_message id null) sent
  pub ended : end.phase ≡ Ended 0
  pub held : end.held ≡ before.held

-- ---- the guarantees for every exchange, stated without the model

-- a published list of diagnostics: the document's uri, the document's version, and whether the list
-- is empty
pub record VersionedPublication : Type 0 where
  pub uri : List ℕ
  pub version : ℤ
  pub no_diagnostics : Bool

-- returns a list of one publication if the message publishes diagnostics with a version, otherwise
-- an empty list
abbrev pub versioned_publications_in_message : Option MessageToEditor → List VersionedPublication
versioned_publications_in_message (Some (publishes uri (Some version) empty)) =
    record { uri = uri; version = version; no_diagnostics = empty } ∷ []
versioned_publications_in_message (Some (publishes uri None empty)) = []
versioned_publications_in_message (Some (answers k edits)) = []
versioned_publications_in_message None = []

-- returns the publications with a version in these contents, in order
abbrev pub versioned_publications_in_contents : List (List ℕ) → List VersionedPublication
versioned_publications_in_contents [] = []
versioned_publications_in_contents (content ∷ contents) = versioned_publications_in_message (message_to_editor_in_content [] content) ++ versioned_publications_in_contents contents

-- States that there are as many lists of diagnostics as documents. The n-th list has the n-th
-- document's uri and version, and is empty exactly if that document's text is a well-typed module.
abbrev pub AreCorrectForDocuments : List VersionedPublication → List AnnouncedDocument → Type 0
AreCorrectForDocuments [] [] = ⊤
AreCorrectForDocuments (p ∷ published) (t ∷ announced) =
    (p.uri ≡ t.uri)
    × (p.version ≡ t.document.version)
    × NoDiagnosticsExactlyIfWellTyped t.document.text p.no_diagnostics
    × AreCorrectForDocuments published announced
AreCorrectForDocuments [] (t ∷ announced) = ⊥
AreCorrectForDocuments (p ∷ published) [] = ⊥

-- returns the last list of diagnostics for the document with this uri, or None if there is no such
-- list
abbrev pub last_versioned_publication : List ℕ → List VersionedPublication → Option VersionedPublication
last_versioned_publication uri published =
    fold (λ last p. if bytes_eq p.uri uri then Some p else last) None published

-- Returns the notifications about documents in these contents, in order. A notification opens,
-- changes or closes a document. A notification that can't be read, but has a uri, puts the document
-- with that uri out of step.
abbrev pub notifications_in_contents : List (List ℕ) → List MessageToServer
notifications_in_contents contents = filter_map (message_to_server_in_content []) contents

-- States the guarantees for an exchange of a session and an editor that keeps ob0's rules, from
-- `begin` to `now`. They hold for each: the law `guarantees_hold_for_every_exchange`.
pub record GuaranteesHoldForExchange (begin now : Exchange) : Type 0 where
  -- each edit that the editor applied keeps the module's run
  pub applied : All PreservesRun now.applied
  -- `since` lists the contents that the session has sent after `begin`. The n-th list of
  -- diagnostics with a version in `since` is correct for the n-th document in
  -- `published_documents`. The announced documents are `published_documents`, followed by
  -- `unpublished_documents`.
  pub since : List (List ℕ)
  pub sent : now.wire.got ++ now.wire.to_editor ≡ begin.wire.got ++ since
  pub published_documents : List AnnouncedDocument
  pub unpublished_documents : List AnnouncedDocument
  pub announced : now.announced ≡ published_documents ++ unpublished_documents
  pub right : AreCorrectForDocuments (versioned_publications_in_contents since) published_documents
  -- the `unpublished_documents` are announced by contents that still wait for the session
  pub unpublished_are_queued : map uri_and_version_of unpublished_documents
      ≡ uris_and_versions_announced_in_queue (notifications_in_contents now.wire.to_server)
  -- if no notification about a document waits for the session, the latest diagnostics of each open
  -- document are for its present version and text
  pub latest : notifications_in_contents now.wire.to_server ≡ []
      → (uri : List ℕ) (d : OpenDocument) → editor_document_with_uri now.editor uri ≡ Some d
      → MatchOption (last_versioned_publication uri (versioned_publications_in_contents since)) ⊥
      (λ p. (p.version ≡ d.version) × NoDiagnosticsExactlyIfWellTyped d.text p.no_diagnostics)
  -- once the session has taken the waiting contents, it has the editor's documents
  pub mirrors : (uri : List ℕ)
      → document_at (fold documents_after_message now.wire.session.held
      (notifications_in_contents now.wire.to_server)) uri
      ≡ option_map in_step_document (editor_document_with_uri now.editor uri)
  -- the session has taken and sent these contents in one conversation, from the session's start
  pub conversation : IsConversation server.initial_server_state now.wire.taken
      (now.wire.got ++ now.wire.to_editor) now.wire.session
  -- if the session next takes `shutdown` and `exit`, it ends with status 0
  pub ends : (id : Data) (shutdown exit : List ℕ)
      → IsShutdownRequest id shutdown → IsExitNotification exit
      → (sent : List (List ℕ)) (end : ServerState)
      → IsConversation now.wire.session (shutdown ∷ exit ∷ []) sent end
      → EndsAfterShutdown id now.wire.session sent end

-- ---- the law that each list of events that `play` performs is an exchange

-- States that each list of events of the model's editor and a session (`IsConnectionCourse`) is
-- also an exchange of an editor that keeps ob0's rules. So each guarantee for exchanges also holds
-- for every list of events that `play` performs.
abbrev pub EveryConnectionCourseIsExchange : Type 0
EveryConnectionCourseIsExchange =
    (unit : Unit) (begin end : Connection) (events : List Event)
    → IsInitialConnection unit begin
    → IsConnectionCourse begin events end
    → (first : Exchange)
    × (turns : List ExchangeTurn)
    × (last : Exchange)
    × IsInitialExchange unit first
    × IsExchangeCourse first turns last
    × (last.editor ≡ end.model.editor)
    × (last.wire ≡ end.wire)
    × (last.applied ≡ end.model.applied)
