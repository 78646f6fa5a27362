-- Defines the server's replies to messages, and the state of the session after each message.
-- Rule: docs/PROTOCOL.md, Order of checks, and errors; Lifecycle; Documents; Publishing; Requests on documents.
use Rattle.std.specs.Prelude.{◌≡◌, ℕ, ℤ, List, [], ◌∷◌, ◌++◌, false, Option, Some, None, is_some, Result, Ok, Err, if◌then◌else◌, codes}
use Rattle.std.specs.Str.{bytes_eq}
use Rattle.serde_json.specs.Data.{Data, null}
use Rattle.ob0_text.specs.OpenDocuments.{OpenDocuments, Document, InStep, OutOfStep, no_open_documents, document_at, documents_after_open, documents_after_change, documents_after_loss, documents_after_close}
use Rattle.ob0_text.specs.declared.position_types.Unit.{Unit}
use Rattle.ob0_text.specs.declared.position_types.Unit.TheVariants.{Utf16}
use Rattle.ob0_text.specs.declared.edits.Indent.{Indent}
use Rattle.ob0_text.specs.declared.position_types.Range.{Range}
use Rattle.ob0_rpc.specs.Requests.{DocumentPlace, ClientRequest, initialize, shutdown, hover, definition, references, prepare_rename, rename, code_action, formatting, request_by_method}
use Rattle.ob0_rpc.specs.Faults.{negative_of, error_code, error_text}
use Rattle.ob0_rpc.specs.Messages.{IsJsonOfContent, MessageMeaning, not_json, not_a_message, response, request, notice, meaning_of_content}
use Rattle.ob0_rpc.specs.Notifications.{NotificationMeaning, exits, opens, changes, closes, unreadable, other, notification_by_method}
use Rattle.ob0_rpc.specs.JsonShapes.{result_message, error_response_message}
use Rattle.ob0_rpc.specs.WrittenMessages.{Writes}
use Rattle.ob0_rpc.specs.declared.client_capabilities.ClientFeatures.{ClientFeatures}
use Rattle.ob0_rpc.specs.declared.incoming_messages.RpcFault.{RpcFault}
use Rattle.ob0_rpc.specs.declared.incoming_messages.RpcFault.TheVariants.{NotJson, NotAMessage}
use Rattle.ob0_session_answers.specs.Actions.{VersionedActionsRequest, AnswersActionsRequest}
use Rattle.ob0_session_server.specs.ClientUnits.{unit_for_client}
use Rattle.ob0_session_answers.specs.Diagnostics.{AreDiagnosticsOf}
use Rattle.ob0_session_answers.specs.FormattingAnswers.{AnswersFormattingRequest}
use Rattle.ob0_session_answers.specs.Questions.{AnswersQuestion, NameQuestion, hover_question, definition_question, references_question, prepare_rename_question}
use Rattle.ob0_session_answers.specs.RenamingAnswers.{VersionedRenameRequest, AnswersRenameRequest}
use Rattle.ob0_session_json.specs.JsonShapes.{Diagnostic, initialize_result, edit_refusal_message, publication}
use Rattle.ob0_session_server.specs.declared.session.Phase.{Phase}
use Rattle.ob0_session_server.specs.declared.session.Phase.TheVariants.{Starting, Running, ShutDown, Ended, Failed}

-- ---- the state that a server keeps between messages

-- The state of a session: its phase, the client's capabilities and the open documents.
pub record ServerState : Type 0 where
  -- The phase of the lifecycle.
  pub phase : Phase
  -- The client's capabilities.
  pub client : ClientFeatures
  -- The documents that the client has open, and the unit in which positions are counted.
  pub held : OpenDocuments

-- The capabilities of a client before `initialize`: none.
abbrev pub no_client_features : ClientFeatures
no_client_features =
    record {
      offers_utf8 = false;
      prepares_renames = false;
      accepts_literal_actions = false;
      accepts_document_changes = false;
    }

-- The state of a session before `initialize`: no document is open, and positions are counted in
-- UTF-16 units.
abbrev pub initial_server_state : ServerState
initial_server_state = record { phase = Starting; client = no_client_features; held = no_open_documents Utf16 }

-- ---- the reply to one message

-- The reply to one message: nothing, a given message (`fixed_reply`), or a message that depends on
-- a document's text. Such a message publishes the text's diagnostics, or answers a request about
-- the text.
pub data Reply : Type 0 where
  no_reply : Reply
  -- Exactly this message.
  fixed_reply : Data → Reply
  -- A publication of the diagnostics of a document. Arguments: the unit of positions, the uri, the
  -- version, and the characters of the text.
  diagnostics_reply : Unit → List ℕ → ℤ → List ℕ → Reply
  -- The edits that format a text, or a refusal to format it. Arguments: the unit of positions, the
  -- request's id, the indentation, and the characters of the text.
  formatting_reply : Unit → Data → Indent → List ℕ → Reply
  -- The answer to hover, definition, references or prepareRename. Arguments: the unit of positions,
  -- the request's id, the document and position, the question, and the characters of the text.
  question_reply : Unit → Data → DocumentPlace → NameQuestion → List ℕ → Reply
  -- The edits that rename a declaration or field, or a refusal to rename it. Arguments: the unit of
  -- positions, the request, and the characters of the text.
  rename_reply : Unit → VersionedRenameRequest → List ℕ → Reply
  -- The offered code actions. Arguments: the unit of positions, the request, and the characters of
  -- the text.
  actions_reply : Unit → VersionedActionsRequest → List ℕ → Reply

-- States that the list `sent` has exactly one item: the JSON text of this message.
abbrev pub SendsMessage : Data → List (List ℕ) → Type 0
SendsMessage message sent = (bytes : List ℕ) × (sent ≡ bytes ∷ []) × Writes message bytes

-- States that the session gives this reply by sending the contents `sent`. A content is the bytes
-- of one message after its head. For the reply `no_reply`, `sent` is empty. For any other reply,
-- `sent` is exactly one content: the text of a message that this reply allows.
abbrev pub AreContentsOfReply : Reply → List (List ℕ) → Type 0
AreContentsOfReply no_reply sent = sent ≡ []
AreContentsOfReply (fixed_reply message) sent = SendsMessage message sent
AreContentsOfReply (diagnostics_reply unit uri version text) sent =
    (ds : List Diagnostic) × AreDiagnosticsOf unit text ds × SendsMessage (publication uri (Some version) ds) sent
AreContentsOfReply (formatting_reply unit id indent text) sent =
    (message : Data) × AnswersFormattingRequest unit id indent text message × SendsMessage message sent
AreContentsOfReply (question_reply unit id at question text) sent =
    (value : Data) × AnswersQuestion unit text at question value × SendsMessage (result_message id value) sent
AreContentsOfReply (rename_reply unit requested text) sent =
    (message : Data) × AnswersRenameRequest unit requested text message × SendsMessage message sent
AreContentsOfReply (actions_reply unit requested text) sent =
    (message : Data) × AnswersActionsRequest unit requested text message × SendsMessage message sent

-- The reaction to a message: the state of the session after the message, and the reply.
pub record Reaction : Type 0 where
  pub after : ServerState
  pub reply : Reply

-- Returns the reaction that leaves the state unchanged and sends this reply.
abbrev pub reaction_without_change : ServerState → Reply → Reaction
reaction_without_change s say = record { after = s; reply = say }

-- Returns the reaction that moves the lifecycle to this phase and sends this reply.
abbrev pub reaction_with_phase : Phase → ServerState → Reply → Reaction
reaction_with_phase phase s say = record { after = record s { phase = phase }; reply = say }

-- Returns the reaction that replaces the open documents by `held` and sends this reply.
abbrev pub reaction_with_documents : OpenDocuments → ServerState → Reply → Reaction
reaction_with_documents held s say = record { after = record s { held = held }; reply = say }

-- Returns the reaction that sends an error response with this id, code and text. The state is
-- unchanged.
abbrev pub react_with_error : ServerState → Data → ℤ → List ℕ → Reaction
react_with_error s id code said = reaction_without_change s (fixed_reply (error_response_message id code said))

-- Returns the reaction that sends the error response for this fault, with this id. The state is
-- unchanged.
abbrev pub react_with_fault : ServerState → Data → RpcFault → Reaction
react_with_fault s id fault = react_with_error s id (error_code fault) (error_text fault)

-- ---- requests: first the lifecycle is checked, then the method, then the params

-- Returns the state right after a client with these capabilities has sent `initialize`. No document
-- is open.
abbrev pub state_after_initialize : ClientFeatures → ServerState
state_after_initialize client = record { phase = Running; client = client; held = no_open_documents (unit_for_client client) }

-- Returns the reaction to a request about a document. If the document is in step (its text is
-- known), the function `say` makes the reply from the document's version and text. If the document
-- is out of step or isn't open (None), the reply is a refusal.
abbrev pub react_to_document_request : ServerState → Data → Option Document → (ℤ → List ℕ → Reply) → Reaction
react_to_document_request s id (Some (InStep version text)) say = reaction_without_change s (say version text)
react_to_document_request s id (Some OutOfStep) say = reaction_without_change s (fixed_reply (edit_refusal_message id (codes "out of step")))
react_to_document_request s id None say = reaction_without_change s (fixed_reply (edit_refusal_message id (codes "unopened")))

-- Returns the reaction to hover, definition, references or prepareRename: a question about the name
-- or field at a position.
abbrev pub react_to_question : ServerState → Data → DocumentPlace → NameQuestion → Reaction
react_to_question s id at question =
    react_to_document_request s id (document_at s.held at.uri)
    (λ version. question_reply s.held.unit id at question)

-- Returns the reaction to a request to rename the name or field at a position.
abbrev pub react_to_rename : ServerState → Data → DocumentPlace → List ℕ → Reaction
react_to_rename s id at new =
    react_to_document_request s id (document_at s.held at.uri) (λ version. rename_reply s.held.unit
    (record { id = id; client = s.client; at = at; version = version; new = new }))

-- Returns the reaction to a request for code actions in a range. `only` lists the requested kinds
-- of actions, or is None if all kinds are requested.
abbrev pub react_to_actions : ServerState
    → Data
    → List ℕ
    → Range
    → Option (List (List ℕ))
    → Reaction
react_to_actions s id uri range only =
    react_to_document_request s id (document_at s.held uri)
    (λ version. actions_reply s.held.unit (record
    { id = id; client = s.client; uri = uri; version = version; range = range; only = only }))

-- Returns the reaction to a request to format a document.
abbrev pub react_to_formatting : ServerState → Data → List ℕ → Indent → Reaction
react_to_formatting s id uri indent =
    react_to_document_request s id (document_at s.held uri) (λ version. formatting_reply s.held.unit id indent)

-- Returns the reaction to a request. The third argument is the request that has been read (`Ok`),
-- or the fault that prevented reading it (`Err`).
abbrev pub react_to_parsed_request : ServerState → Data → Result ClientRequest RpcFault → Reaction
react_to_parsed_request s id (Ok (initialize client)) =
    record { after = state_after_initialize client; reply = fixed_reply (result_message id (initialize_result client)) }
react_to_parsed_request s id (Ok shutdown) = reaction_with_phase ShutDown s (fixed_reply (result_message id null))
react_to_parsed_request s id (Ok (hover at)) = react_to_question s id at hover_question
react_to_parsed_request s id (Ok (definition at)) = react_to_question s id at definition_question
react_to_parsed_request s id (Ok (references at include)) = react_to_question s id at (references_question include)
react_to_parsed_request s id (Ok (prepare_rename at)) = react_to_question s id at prepare_rename_question
react_to_parsed_request s id (Ok (rename at new)) = react_to_rename s id at new
react_to_parsed_request s id (Ok (code_action uri range only)) = react_to_actions s id uri range only
react_to_parsed_request s id (Ok (formatting uri indent)) = react_to_formatting s id uri indent
react_to_parsed_request s id (Err fault) = react_with_fault s id fault

-- Returns the reaction to a request with this method and these params, in a phase that allows the
-- request.
abbrev pub react_to_allowed_request : ServerState → Data → List ℕ → Data → Reaction
react_to_allowed_request s id method params = react_to_parsed_request s id (request_by_method method params)

-- Returns the reaction to a request in this phase of the lifecycle. Once the session has ended or
-- an allocation has failed, there is no reply.
abbrev pub react_to_request : Phase → ServerState → Data → List ℕ → Data → Reaction
react_to_request Starting s id method params =
    if bytes_eq method (codes "initialize") then react_to_allowed_request s id method params
    else react_with_error s id (negative_of 32002) (codes "not initialized")
react_to_request Running s id method params =
    if bytes_eq method (codes "initialize")
    then react_with_error s id (negative_of 32600) (codes "already initialized")
    else react_to_allowed_request s id method params
react_to_request ShutDown s id method params = react_with_error s id (negative_of 32600) (codes "shut down")
react_to_request phase s id method params = reaction_without_change s no_reply

-- ---- the reactions to notifications

-- Returns the exit status of a session that receives `exit` in this phase: 0 after `shutdown`,
-- otherwise 1.
abbrev pub exit_status_in_phase : Phase → ℕ
exit_status_in_phase ShutDown = 0
exit_status_in_phase phase = 1

-- Returns the reaction to `exit`, which ends the session with the status for its phase.
abbrev pub react_to_exit : ServerState → Reaction
react_to_exit s = reaction_with_phase (Ended (exit_status_in_phase s.phase)) s no_reply

-- Returns the reply that publishes the diagnostics of the document with this uri. Returns
-- `no_reply` if the document isn't open or is out of step.
abbrev pub publication_reply : Unit → List ℕ → Option Document → Reply
publication_reply unit uri (Some (InStep version text)) = diagnostics_reply unit uri version text
publication_reply unit uri (Some OutOfStep) = no_reply
publication_reply unit uri None = no_reply

-- Returns the reaction that replaces the open documents by `held` and publishes the diagnostics of
-- the document with this uri.
abbrev pub react_with_publication : List ℕ → OpenDocuments → ServerState → Reaction
react_with_publication uri held s =
    reaction_with_documents held s (publication_reply held.unit uri (document_at held uri))

-- Returns the reaction to a notification that is received while the session runs.
abbrev pub apply_notification : ServerState → NotificationMeaning → Reaction
apply_notification s exits = react_to_exit s
apply_notification s (opens uri version text) =
    react_with_publication uri (documents_after_open s.held uri version text) s
apply_notification s (changes uri version all) =
    react_with_publication uri (documents_after_change s.held uri version all) s
-- Closing an open document clears its diagnostics.
apply_notification s (closes uri) =
    reaction_with_documents (documents_after_close s.held uri) s
    (if is_some (document_at s.held uri) then fixed_reply (publication uri None []) else no_reply)
apply_notification s (unreadable (Some uri)) = reaction_with_documents (documents_after_loss s.held uri) s no_reply
apply_notification s (unreadable None) = reaction_without_change s no_reply
apply_notification s other = reaction_without_change s no_reply

-- Returns the reaction to a notification in this phase. While the session runs, the notification is
-- applied. In any other phase, `exit` ends the session, and every other notification is ignored.
abbrev pub react_to_notification : Phase → ServerState → List ℕ → Data → Reaction
react_to_notification Running s method params = apply_notification s (notification_by_method method params)
react_to_notification phase s method params =
    if bytes_eq method (codes "exit") then react_to_exit s else reaction_without_change s no_reply

-- ---- the replies to the content of one message, and to the contents of a conversation

-- Returns the reaction of a server in the state `s` to received bytes with this meaning: a message,
-- or the reason why they aren't a message.
abbrev pub react_to_message : ServerState → MessageMeaning → Reaction
react_to_message s not_json = react_with_fault s null NotJson
react_to_message s not_a_message = react_with_fault s null NotAMessage
react_to_message s response = reaction_without_change s no_reply
react_to_message s (request id method params) = react_to_request s.phase s id method params
react_to_message s (notice method params) = react_to_notification s.phase s method params

-- States that a server in the state `before` may reply to this content (the bytes of one message)
-- with the messages `sent`. `after` is the server's state after the reply. `AnswersInPhase` uses
-- this definition if the session has neither ended nor failed.
abbrev pub AnswersInActivePhase : ServerState → List ℕ → List (List ℕ) → ServerState → Type 0
AnswersInActivePhase before content sent after =
    (json : Option Data) × IsJsonOfContent content json
    × (let r = react_to_message before (meaning_of_content json) in (after ≡ r.after) × AreContentsOfReply r.reply sent)

-- States that a server in this phase and in the state `before` may reply to this content with the
-- messages `sent`. `after` is the server's state after the reply. If the session has ended, nothing
-- is sent and the state is unchanged. In the phase `Failed` (after a failed allocation), this never
-- holds.
abbrev pub AnswersInPhase : Phase → ServerState → List ℕ → List (List ℕ) → ServerState → Type 0
AnswersInPhase (Ended status) before content sent after = (sent ≡ []) × (after ≡ before)
AnswersInPhase Failed before content sent after = ⊥
AnswersInPhase phase before content sent after = AnswersInActivePhase before content sent after

-- States that a server in the state `before` may reply to this content (the bytes of one message)
-- with the messages `sent`. `after` is the server's state after the reply.
abbrev pub Answers : ServerState → List ℕ → List (List ℕ) → ServerState → Type 0
Answers before content sent after = AnswersInPhase before.phase before content sent after

-- States that the server replies to this content with the messages `first`, which begin the list
-- `sent`. `between` is the server's state after this reply, and `later` has the other messages of
-- `sent`. The condition `Follows` holds for `between` and `later`.
pub record AnswersFirstContent (before : ServerState) (content : List ℕ) (sent : List (List ℕ))
    (Follows : ServerState → List (List ℕ) → Type 0) : Type 0 where
  pub between : ServerState
  pub first : List (List ℕ)
  pub later : List (List ℕ)
  pub answers : Answers before content first between
  pub follows : Follows between later
  pub all : sent ≡ first ++ later

-- States that a server in the state `before` may reply to these message contents, one after
-- another, with the messages `sent`, in order. `after` is the server's state after all replies.
abbrev pub IsConversation : ServerState → List (List ℕ) → List (List ℕ) → ServerState → Type 0
IsConversation before [] sent after = (sent ≡ []) × (after ≡ before)
IsConversation before (content ∷ contents) sent after =
    AnswersFirstContent before content sent (λ between later. IsConversation between contents later after)
