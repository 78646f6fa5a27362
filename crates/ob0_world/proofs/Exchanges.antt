-- Proves that an exchange of a session and an editor that keeps ob0's rules follows the model, turn by turn.
use Rattle.std.proofs.Common.{◌≡◌, ◌∙◌, ℕ, zero, suc, Bool, true, false, cond, List, [], ◌∷◌, ◌++◌, map, refl, sym, ap, subst, inl, inr}
use Rattle.std.specs.Prelude.{⊤, ℤ, fold, All, Option, Some, None, MatchOption, Result, Ok, Err, is_some, filter_map, option_map, option_and_then, codes}
use Rattle.std.specs.List.{cons_option}
use Rattle.std.specs.Option.{option_to_list}
use Rattle.std.specs.Str.{bytes_eq, is_utf8}
use Rattle.std.proofs.lemmas.List.{append-nil, append_assoc, map-append}
use Rattle.std.proofs.lemmas.List.Elements.{All-head, All-tail}
use Rattle.serde_json.specs.Data.{Data, null}
use Rattle.serde_json.specs.Find.{get}
use Rattle.serde_json.specs.Read.{read}
use Rattle.ob0_text.specs.RefusalTexts.{refusal_text}
use Rattle.ob0_text.specs.declared.edits.Indent.{Indent}
use Rattle.ob0_text.specs.declared.refusals.EditRefusal.TheVariants.{TooLong}
use Rattle.ob0_text.specs.declared.position_types.Unit.{Unit}
use Rattle.ob0_text.specs.OpenDocuments.{OpenDocuments, Document, InStep, OutOfStep, Opened, Changed, Lost, Closed, documents_after_event, no_open_documents, document_at}
use Rattle.ob0_rpc.specs.declared.incoming_messages.RpcFault.{RpcFault}
use Rattle.ob0_rpc.specs.declared.incoming_messages.RpcFault.TheVariants.{NotAMessage}
use Rattle.ob0_rpc.specs.Faults.{negative_of, error_code, error_text}
use Rattle.ob0_rpc.specs.Messages.{IsJsonOfContent, MessageMeaning, not_json, not_a_message, response, request, notice, meaning_of_message}
use Rattle.ob0_rpc.specs.Notifications.{other}
use Rattle.ob0_rpc.specs.Requests as asked
use Rattle.ob0_rpc.specs.Requests.{DocumentPlace, ClientRequest, request_by_method}
use Rattle.ob0_rpc.specs.JsonShapes.{result_message, error_response_message}
use Rattle.ob0_session_answers.specs.Questions.{NameQuestion, hover_question, definition_question, references_question, prepare_rename_question}
use Rattle.ob0_session_answers.specs.Actions.{VersionedActionsRequest}
use Rattle.ob0_session_json.specs.JsonShapes.{edit_list_value, workspace_edit_value}
use Rattle.ob0_session_server.specs.Answers.{ServerState, Reply, AreContentsOfReply, SendsMessage, Reaction, react_to_message, react_to_request, react_to_notification, apply_notification, react_to_parsed_request, react_to_allowed_request, react_to_document_request, question_reply, react_to_question, rename_reply, actions_reply, formatting_reply, react_with_error, Answers}
use Rattle.ob0_world_editor.specs.MessagesToServer.{request_number_from_id, message_of_sent_ask, message_of_notification, message_to_server_of_meaning, message_to_server_in_content}
use Rattle.ob0_world_editor.specs.MessagesToEditor.{message_to_editor_in_content, publication_of_notification, answer_of_response, message_to_editor_of_value, message_to_editor_given_numbering, answer_to_ask, edits_in_answer}
use Rattle.ob0_world_editor.proofs.Hearing.{said, says_heard, read_as}
use Rattle.ob0_world_rules.specs.Asks.{Ask, rename, inline_here, inline_all, format}
use Rattle.ob0_world_rules.specs.ClientAndServer.{OpenDocument, SentAsk, Editor, sent_ask_with_number, MessageToServer, notifies, requests, MessageToEditor, publishes, answers, PublicationWithText, documents_after_message}
use Rattle.ob0_world_rules.specs.EditorActs.{ActResult, editor_after_message, editor_without_answer}
use Rattle.ob0_world_rules.specs.EditorMoves.{Revision, EditorMove, editor_opens, editor_revises, editor_closes, editor_asks, editor_applies, editor_discards, revised_document, editor_with_document, RevisesDocument, IsAllowedMove}
use Rattle.ob0_world_rules.specs.EveryEditor.{EditorAndServer, initial_editor_and_server, modeled_messages, notifications_in_queue, ExchangeTurn, editor_moves, editor_sends_unmodeled_message, server_takes_message, editor_takes_message, TurnMayLeadTo, IsCourseOfTurns, GuaranteesHoldForEditorAndServer}
use Rattle.ob0_world_rules.specs.Answers.{OneUse, Everywhere, NoDiagnosticsExactlyIfWellTyped}
use Rattle.ob0_world_rules.specs.ServerReplies.{ServerSendsDiagnostics, ServerRepliesToMessage}
use Rattle.ob0_world_rules.specs.Headline.{IsCorrectPublication, last_publication}
use Rattle.ob0_world_rules.specs.PublicationsAreInOrder.{AnnouncedDocument, AreMadeForDocumentsInOrder, uri_and_version_announced_by_message, uris_and_versions_announced_in_queue}
use Rattle.ob0_world_rules.proofs.UriLaws.{mapped_choice}
use Rattle.ob0_world_rules.proofs.EveryEditor.{guarantees_hold_for_every_editor}
use Rattle.ob0_world.specs.Worlds.{Wire, SessionTakesFirstContent}
use Rattle.ob0_session_server.specs.declared.session.Phase.TheVariants.{Running}
use Rattle.ob0_world.specs.Queues.{publication_in_first_message}
use Rattle.ob0_world.specs.Exchanges.{RequestId, id_of_value, is_same_id, SentRequestId, ask_number_of_request_id, ask_number_of_json_id, AssignsAskIds, ids_with_non_ask_id, IsNonAskId, Exchange, IsInitialExchange, IsMessageToSession, IsRequestForAsk, IsReadOnlyRequest, IsUnmodeledMessage, IsUnmodeledContent, message_to_editor_given_ids, editor_after_optional_message, EditorReadsFirstContent, wire_with_queued_contents, ExchangeTakesTurn, IsExchangeCourse, AreMessagesToSession, AreMessagesToEditor, EveryExchangeFollowsModel, VersionedPublication, versioned_publications_in_message, versioned_publications_in_contents, AreCorrectForDocuments, last_versioned_publication, notifications_in_contents, GuaranteesHoldForExchange}
use Rattle.ob0_world.proofs.Answering.{Served, note_answered, ask_answered, actions_answered, going_on, reacts_so}
use Rattle.ob0_world.proofs.Waiting.{read_still}
use Rattle.ob0_world.proofs.Ending.{ends_well}
use Rattle.ob0_world.proofs.Courses.{Conversed, takes_conversed, gets_conversed, written_conversed, initialized_conversed, as_conversation}
use Rattle.ob0_session_answers.specs.RenamingAnswers.{VersionedRenameRequest}
use Rattle.ob0_rpc.specs.declared.client_capabilities.ClientFeatures.{ClientFeatures}
use Rattle.ob0_world_rules.proofs.Asked.{numbered_push}
use Rattle.std.proofs.lemmas.Option.{none-some}

-- ---- more requests, and more contents

sent_still : (ids later : List SentRequestId) (id : RequestId) (o : Option ℕ) → ask_number_of_request_id ids id ≡ Some o → ask_number_of_request_id (ids ++ later) id ≡ Some o
sent_still [] later id o h = absurd (none-some o h)
sent_still (s ∷ ids) later id o h = go (is_same_id s.id id) h (sent_still ids later id o)
  where
    go : (b : Bool) → cond b (Some s.ask) (ask_number_of_request_id ids id) ≡ Some o → (ask_number_of_request_id ids id ≡ Some o → ask_number_of_request_id (ids ++ later) id ≡ Some o) → cond b (Some s.ask) (ask_number_of_request_id (ids ++ later) id) ≡ Some o
    go true is next = is
    go false is next = next is

ask_with_still : (ids later : List SentRequestId) (d : Data) (k : ℕ) → ask_number_of_json_id ids d ≡ Some k → ask_number_of_json_id (ids ++ later) d ≡ Some k
ask_with_still ids later d k h = go (id_of_value d) h
  where
    at : (id : RequestId) (o : Option (Option ℕ)) → ask_number_of_request_id ids id ≡ o → option_and_then (λ ask. ask) o ≡ Some k → option_and_then (λ ask. ask) (ask_number_of_request_id (ids ++ later) id) ≡ Some k
    at id None is h = absurd (none-some k h)
    at id (Some o) is h = ap (option_and_then (λ ask. ask)) (sent_still ids later id o is) ∙ h

    go : (o : Option RequestId) → option_and_then (λ ask. ask) (option_and_then (ask_number_of_request_id ids) o) ≡ Some k → option_and_then (λ ask. ask) (option_and_then (ask_number_of_request_id (ids ++ later)) o) ≡ Some k
    go None h = absurd (none-some k h)
    go (Some id) h = at id (ask_number_of_request_id ids id) refl h

module _ (client : ClientFeatures) (ids later : List SentRequestId) (requested more : List SentAsk) where
  id_still : (o : Option RequestId) → IsNonAskId ids o → IsNonAskId (ids ++ later) o
  id_still None h = tt
  id_still (Some id) h = sent_still ids later id None h

  message_still : (m : MessageMeaning) → IsUnmodeledMessage ids m → IsUnmodeledMessage (ids ++ later) m
  message_still not_json h = h
  message_still not_a_message h = h
  message_still response h = h
  message_still (request id method params) (first, question, own) = (first, question, id_still (id_of_value id) own)
  message_still (notice method params) h = h

  other_still : (content : List ℕ) → IsUnmodeledContent ids content → IsUnmodeledContent (ids ++ later) content
  other_still content (json, reads_so, is) = (json, reads_so, message_still (meaning_of_message json) is)

  session_still : (m : MessageToServer) (content : List ℕ) → IsMessageToSession client ids requested m content → IsMessageToSession client (ids ++ later) (requested ++ more) m content
  session_still (notifies note) content h = h
  session_still (requests k uri ask) content (id, is, of, takes) = (
    id,
    is,
    record {
      numbered = ask_with_still ids later id k of.numbered;
      is = record { sent = of.is.sent; is = numbered_push requested more k of.is.sent of.is.is; about = of.is.about; same_ask = of.is.same_ask };
    },
    takes,
  )

  says_on : (q : List (Option MessageToServer)) (contents : List (List ℕ)) → AreMessagesToSession client ids requested q contents → AreMessagesToSession client (ids ++ later) (requested ++ more) q contents
  says_on [] [] h = tt
  says_on (Some m ∷ q) (c ∷ contents) h = (session_still m c h.0, says_on q contents h.1)
  says_on (None ∷ q) (c ∷ contents) h = (other_still c h.0, says_on q contents h.1)
  says_on [] (c ∷ contents) h = absurd h
  says_on (Some m ∷ q) [] h = absurd h
  says_on (None ∷ q) [] h = absurd h

  means_on : (r : List (Option MessageToEditor)) (contents : List (List ℕ)) → AreMessagesToEditor ids requested r contents → AreMessagesToEditor (ids ++ later) (requested ++ more) r contents
  means_on [] [] h = tt
  means_on (Some m ∷ r) (c ∷ contents) h = (read_still (ask_number_of_json_id ids) (ask_number_of_json_id (ids ++ later)) requested more (λ d k a is named. ask_with_still ids later d k named) c m h.0, means_on r contents h.1)
  means_on (None ∷ r) (c ∷ contents) h = (λ further all. subst (λ more. message_to_editor_given_ids more all c ≡ None) (sym (append_assoc ids later further)) (h.0 (later ++ further) all), means_on r contents h.1)
  means_on [] (c ∷ contents) h = absurd h
  means_on (Some m ∷ r) [] h = absurd h
  means_on (None ∷ r) [] h = absurd h

module _ (client : ClientFeatures) (ids : List SentRequestId) (requested : List SentAsk) where
  says_append : (q p : List (Option MessageToServer)) (contents others : List (List ℕ)) → AreMessagesToSession client ids requested q contents → AreMessagesToSession client ids requested p others → AreMessagesToSession client ids requested (q ++ p) (contents ++ others)
  says_append [] p [] others h k = k
  says_append (Some m ∷ q) p (c ∷ contents) others h k = (h.0, says_append q p contents others h.1 k)
  says_append (None ∷ q) p (c ∷ contents) others h k = (h.0, says_append q p contents others h.1 k)
  says_append [] p (c ∷ contents) others h k = absurd h
  says_append (Some m ∷ q) p [] others h k = absurd h
  says_append (None ∷ q) p [] others h k = absurd h

  means_append : (r p : List (Option MessageToEditor)) (contents others : List (List ℕ)) → AreMessagesToEditor ids requested r contents → AreMessagesToEditor ids requested p others → AreMessagesToEditor ids requested (r ++ p) (contents ++ others)
  means_append [] p [] others h k = k
  means_append (Some m ∷ r) p (c ∷ contents) others h k = (h.0, means_append r p contents others h.1 k)
  means_append (None ∷ r) p (c ∷ contents) others h k = (h.0, means_append r p contents others h.1 k)
  means_append [] p (c ∷ contents) others h k = absurd h
  means_append (Some m ∷ r) p [] others h k = absurd h
  means_append (None ∷ r) p [] others h k = absurd h

  each_means : (sent : List (List ℕ)) → All (λ content. (m : MessageToEditor) × (message_to_editor_given_ids ids requested content ≡ Some m)) sent → AreMessagesToEditor ids requested (map Some (filter_map (message_to_editor_given_ids ids requested) sent)) sent
  each_means [] all = tt
  each_means (c ∷ sent) all =
      let first : (m : MessageToEditor) × (message_to_editor_given_ids ids requested c ≡ Some m) = All-head (λ content. (m : MessageToEditor) × (message_to_editor_given_ids ids requested content ≡ Some m)) c sent all in
      subst (λ o. AreMessagesToEditor ids requested (map Some (cons_option o (filter_map (message_to_editor_given_ids ids requested) sent))) (c ∷ sent)) (sym first.1)
      (first.1, each_means sent (All-tail (λ content. (m : MessageToEditor) × (message_to_editor_given_ids ids requested content ≡ Some m)) c sent all))

-- ---- what a move asks

revises_asks : (revisions : List Revision) (e : Editor) (uri : List ℕ) (new : Editor) (announced : List AnnouncedDocument) → RevisesDocument e uri revisions new announced → new.requested ≡ e.requested
revises_asks [] e uri new announced h = ap (λ (x : Editor). x.requested) h.0
revises_asks (r ∷ more) e uri new announced (d, later, at, makes, rest, is) = revises_asks more (editor_with_document e uri (revised_document d r)) uri new later rest

abbrev AsksMore : Editor → ActResult → Type 0
AsksMore e done = (more : List SentAsk) × (done.editor.requested ≡ e.requested ++ more)

asks_none : (e : Editor) (done : ActResult) → done.editor.requested ≡ e.requested → AsksMore e done
asks_none e done same = ([], same ∙ sym (append-nil e.requested))

asks_more : (e : Editor) (move : EditorMove) (done : ActResult) (announced : List AnnouncedDocument) → IsAllowedMove e move done announced → AsksMore e done
asks_more e (editor_opens uri version text) done announced (is, are) = asks_none e done (ap (λ (x : ActResult). x.editor.requested) is)
asks_more e (editor_revises uri revisions) done announced (new, revises, is) = asks_none e done (ap (λ (x : ActResult). x.editor.requested) is ∙ revises_asks revisions e uri new announced revises)
asks_more e (editor_closes uri) done announced (is, are) = asks_none e done (ap (λ (x : ActResult). x.editor.requested) is)
asks_more e (editor_asks uri ask) done announced (d, at, is, are) = (record { ask = ask; uri = uri; text = d.text; opening = d.opening; version = d.version } ∷ [], ap (λ (x : ActResult). x.editor.requested) is)
asks_more e (editor_applies k revisions) done announced a = asks_none e done (ap (λ (x : ActResult). x.editor.requested) a.is ∙ revises_asks revisions (editor_without_answer e k) a.requested.uri a.new announced a.revises)
asks_more e (editor_discards k) done announced (is, are) = asks_none e done (ap (λ (x : ActResult). x.editor.requested) is)

names_more : (ids : List SentRequestId) (sent : List MessageToServer) (new : List SentRequestId) → AssignsAskIds ids sent new → (later : List SentRequestId) × (new ≡ ids ++ later)
names_more ids [] new is = ([], is ∙ sym (append-nil ids))
names_more ids (notifies note ∷ sent) new names = names_more ids sent new names
names_more ids (requests k uri ask ∷ sent) new (id, fresh, names) =
    let s : SentRequestId = record { id = id; ask = Some k } in
    let more : (later : List SentRequestId) × (new ≡ (ids ++ s ∷ []) ++ later) = names_more (ids ++ s ∷ []) sent new names in
    (s ∷ more.0, more.1 ∙ append_assoc ids (s ∷ []) more.0)

-- The ids after another request are the old ids and perhaps one more.
others_more : (ids : List SentRequestId) (id : Option RequestId) → (later : List SentRequestId) × (ids_with_non_ask_id ids id ≡ ids ++ later)
others_more ids None = ([], sym (append-nil ids))
others_more ids (Some id) = (record { id = id; ask = None } ∷ [], refl)

-- ---- what is replied to other messages

-- holds if the message answers the request with this id
abbrev IsReply : Data → Data → Type 0
IsReply id message = (is_some (get (codes "method") message) ≡ false) × (get (codes "id") message ≡ Some id)

-- A reply to a request that isn't an ask is no answer to an ask.
no_answer_to : (ids : List SentRequestId) (id message : Data) → IsReply id message → IsNonAskId ids (id_of_value id) → (later : List SentRequestId) (requested : List SentAsk) → message_to_editor_of_value (ask_number_of_json_id (ids ++ later)) requested message ≡ None
no_answer_to ids id message (no_method, has_id) own later requested =
    ap (λ b. cond b (publication_of_notification message) (answer_of_response (ask_number_of_json_id (ids ++ later)) requested message)) no_method
    ∙ ap (λ o. option_and_then (answer_to_ask requested message) (option_and_then (ask_number_of_json_id (ids ++ later)) o)) has_id
    ∙ go (id_of_value id) own
  where
    go : (o : Option RequestId) → IsNonAskId ids o → option_and_then (answer_to_ask requested message) (option_and_then (λ ask. ask) (option_and_then (ask_number_of_request_id (ids ++ later)) o)) ≡ None
    go None h = refl
    go (Some i) h = ap (λ x. option_and_then (answer_to_ask requested message) (option_and_then (λ ask. ask) x)) (sent_still ids later i None h)

record OtherServed (ids : List SentRequestId) (requested : List SentAsk) (before after : ServerState) (sent : List (List ℕ)) : Type 0 where
  same : after ≡ before
  said : List (Option MessageToEditor)
  none : modeled_messages said ≡ []
  means : AreMessagesToEditor ids requested said sent

module _ (ids : List SentRequestId) (requested : List SentAsk) (before after : ServerState) (sent : List (List ℕ)) where
  no_reply : after ≡ before → sent ≡ [] → OtherServed ids requested before after sent
  no_reply same none = record { same = same; said = []; none = refl; means = subst (AreMessagesToEditor ids requested []) (sym none) tt }

  -- holds if the session sends one reply to the request with this id
  abbrev Replied : Data → Type 0
  Replied id = (message : Data) × SendsMessage message sent × IsReply id message

  reply_contents_are_determined : (id : Data) → IsNonAskId ids (id_of_value id) → after ≡ before → Replied id → OtherServed ids requested before after sent
  reply_contents_are_determined id own same (message, (content, is, writes), reply) =
      record {
        same = same;
        said = None ∷ [];
        none = refl;
        means = subst (AreMessagesToEditor ids requested (None ∷ [])) (sym is)
            (λ later all. read_as (ask_number_of_json_id (ids ++ later)) all content message writes.reads ∙ no_answer_to ids id message reply own later all, tt);
      }

  refused_other : (id : Data) (code : ℤ) (why : List ℕ) → IsNonAskId ids (id_of_value id) → after ≡ before → SendsMessage (error_response_message id code why) sent → OtherServed ids requested before after sent
  refused_other id code why own same sends = reply_contents_are_determined id own same (error_response_message id code why, sends, (refl, refl))

  -- A request about a document changes nothing and gets one reply or a refusal.
  about_served : (id : Data) (say : ℤ → List ℕ → Reply) → IsNonAskId ids (id_of_value id) → ((version : ℤ) (text : List ℕ) → AreContentsOfReply (say version text) sent → Replied id) → (o : Option Document)
      → after ≡ (react_to_document_request before id o say).after → AreContentsOfReply (react_to_document_request before id o say).reply sent → OtherServed ids requested before after sent
  about_served id say own in_step None same saying = refused_other id (negative_of 32803) (codes "unopened") own same saying
  about_served id say own in_step (Some OutOfStep) same saying = refused_other id (negative_of 32803) (codes "out of step") own same saying
  about_served id say own in_step (Some (InStep version text)) same saying = reply_contents_are_determined id own same (in_step version text saying)

  named_replied : (unit : Unit) (id : Data) (at : DocumentPlace) (question : NameQuestion) (text : List ℕ) → AreContentsOfReply (question_reply unit id at question text) sent → Replied id
  named_replied unit id at question text (value, answers_it, sends) = (result_message id value, sends, (refl, refl))

  rename_replied : (unit : Unit) (r : VersionedRenameRequest) (text : List ℕ) → AreContentsOfReply (rename_reply unit r text) sent → Replied r.id
  rename_replied unit r text (message, inl (edits, found, is), sends) = (result_message r.id (workspace_edit_value r.client r.at.uri r.version edits), subst (λ m. SendsMessage m sent) is sends, (refl, refl))
  rename_replied unit r text (message, inr (inl (refusal, why, is)), sends) = (error_response_message r.id (negative_of 32803) (refusal_text refusal), subst (λ m. SendsMessage m sent) is sends, (refl, refl))
  rename_replied unit r text (message, inr (inr (unfit, is)), sends) = (error_response_message r.id (negative_of 32803) (codes "ill-typed"), subst (λ m. SendsMessage m sent) is sends, (refl, refl))

  actions_replied : (unit : Unit) (r : VersionedActionsRequest) (text : List ℕ) → AreContentsOfReply (actions_reply unit r text) sent → Replied r.id
  actions_replied unit r text (message, (value, how, is), sends) = (result_message r.id value, subst (λ m. SendsMessage m sent) is sends, (refl, refl))

  layout_replied : (unit : Unit) (id : Data) (indent : Indent) (text : List ℕ) → AreContentsOfReply (formatting_reply unit id indent text) sent → Replied id
  layout_replied unit id indent text (message, inl (edits, laid, is), sends) = (result_message id (edit_list_value edits), subst (λ m. SendsMessage m sent) is sends, (refl, refl))
  layout_replied unit id indent text (message, inr (inl (long, is)), sends) = (error_response_message id (negative_of 32803) (refusal_text TooLong), subst (λ m. SendsMessage m sent) is sends, (refl, refl))
  layout_replied unit id indent text (message, inr (inr (unfit, is)), sends) = (error_response_message id (negative_of 32803) (codes "ill-typed"), subst (λ m. SendsMessage m sent) is sends, (refl, refl))

  -- A question about the name at a position changes nothing and gets one reply or a refusal.
  name_served : (id : Data) (at : DocumentPlace) (question : NameQuestion) → IsNonAskId ids (id_of_value id) → after ≡ (react_to_question before id at question).after → AreContentsOfReply (react_to_question before id at question).reply sent → OtherServed ids requested before after sent
  name_served id at question own same saying =
      about_served id (λ version. question_reply before.held.unit id at question) own (λ version text. named_replied before.held.unit id at question text) (document_at before.held at.uri) same saying

  question_served : (id : Data) → IsNonAskId ids (id_of_value id) → (q : Result ClientRequest RpcFault) → IsReadOnlyRequest q → after ≡ (react_to_parsed_request before id q).after → AreContentsOfReply (react_to_parsed_request before id q).reply sent → OtherServed ids requested before after sent
  question_served id own (Ok (asked.initialize client)) h same saying = absurd h
  question_served id own (Ok asked.shutdown) h same saying = absurd h
  question_served id own (Ok (asked.hover at)) h same saying = name_served id at hover_question own same saying
  question_served id own (Ok (asked.definition at)) h same saying = name_served id at definition_question own same saying
  question_served id own (Ok (asked.references at include)) h same saying = name_served id at (references_question include) own same saying
  question_served id own (Ok (asked.prepare_rename at)) h same saying = name_served id at prepare_rename_question own same saying
  question_served id own (Ok (asked.rename at name)) h same saying =
      about_served id (λ version. rename_reply before.held.unit (record { id = id; client = before.client; at = at; version = version; new = name })) own
      (λ version text. rename_replied before.held.unit (record { id = id; client = before.client; at = at; version = version; new = name }) text) (document_at before.held at.uri) same saying
  question_served id own (Ok (asked.code_action uri range only)) h same saying =
      about_served id (λ version. actions_reply before.held.unit (record { id = id; client = before.client; uri = uri; version = version; range = range; only = only })) own
      (λ version text. actions_replied before.held.unit (record { id = id; client = before.client; uri = uri; version = version; range = range; only = only }) text) (document_at before.held uri) same saying
  question_served id own (Ok (asked.formatting uri indent)) h same saying =
      about_served id (λ version. formatting_reply before.held.unit id indent) own (λ version text. layout_replied before.held.unit id indent text) (document_at before.held uri) same saying
  question_served id own (Err fault) h same saying = refused_other id (error_code fault) (error_text fault) own same saying

  message_served : before.phase ≡ Running → (m : MessageMeaning) → IsUnmodeledMessage ids m → after ≡ (react_to_message before m).after → AreContentsOfReply (react_to_message before m).reply sent → OtherServed ids requested before after sent
  message_served running not_json h same saying = absurd h
  message_served running not_a_message h same saying = refused_other null (error_code NotAMessage) (error_text NotAMessage) tt same saying
  message_served running response h same saying = no_reply same saying
  message_served running (request id method params) (first, question, own) same saying =
      let so : react_to_message before (request id method params) ≡ react_to_allowed_request before id method params =
      ap (λ phase. react_to_request phase before id method params) running
      ∙ ap (λ b. cond b (react_with_error before id (negative_of 32600) (codes "already initialized")) (react_to_allowed_request before id method params)) first in
      question_served id own (request_by_method method params) question
      (same ∙ ap (λ (x : Reaction). x.after) so) (subst (λ (x : Reaction). AreContentsOfReply x.reply sent) so saying)
  message_served running (notice method params) h same saying =
      let so : react_to_message before (notice method params) ≡ apply_notification before other =
      ap (λ phase. react_to_notification phase before method params) running ∙ ap (apply_notification before) h in
      no_reply (same ∙ ap (λ (x : Reaction). x.after) so) (subst (λ (x : Reaction). AreContentsOfReply x.reply sent) so saying)

  other_served : (content : List ℕ) → before.phase ≡ Running → IsUnmodeledContent ids content → Answers before content sent after → OtherServed ids requested before after sent
  other_served content running (json, reads_so, is) h =
      let answer = reacts_so before after content sent json (going_on before after content sent running h) reads_so in
      message_served running (meaning_of_message json) is answer.0 answer.1

-- ---- diagnostics

-- An answer has no list of diagnostics in it, whatever was requested.
answer_published : (number_of : Data → Option ℕ) (requested : List SentAsk) (d : Data) → versioned_publications_in_message (answer_of_response number_of requested d) ≡ []
answer_published number_of requested d = go (option_and_then number_of (get (codes "id") d))
  where
    at : (k : ℕ) (o : Option SentAsk) → versioned_publications_in_message (option_map (λ (a : SentAsk). answers k (edits_in_answer a.uri a.ask d)) o) ≡ []
    at k None = refl
    at k (Some a) = refl

    go : (o : Option ℕ) → versioned_publications_in_message (option_and_then (answer_to_ask requested d) o) ≡ []
    go None = refl
    go (Some k) = at k (sent_ask_with_number requested k)

any_published : (number_of : Data → Option ℕ) (requested : List SentAsk) (content : List ℕ) → versioned_publications_in_message (message_to_editor_given_numbering number_of requested content) ≡ versioned_publications_in_message (message_to_editor_in_content [] content)
unfolding message_to_editor_given_numbering
any_published number_of requested content = go (is_utf8 content) (read content)
  where
    value : (d : Data) (b : Bool) → versioned_publications_in_message (cond b (publication_of_notification d) (answer_of_response number_of requested d)) ≡ versioned_publications_in_message (cond b (publication_of_notification d) (answer_of_response request_number_from_id [] d))
    value d true = refl
    value d false = answer_published number_of requested d ∙ sym (answer_published request_number_from_id [] d)

    go : (b : Bool) (o : Option Data) → versioned_publications_in_message (cond b (option_and_then (message_to_editor_of_value number_of requested) o) None) ≡ versioned_publications_in_message (cond b (option_and_then (message_to_editor_of_value request_number_from_id []) o) None)
    go false o = refl
    go true None = refl
    go true (Some d) = value d (is_some (get (codes "method") d))

abbrev versions : List (Option MessageToEditor) → List VersionedPublication
versions [] = []
versions (o ∷ r) = versioned_publications_in_message o ++ versions r

means_published : (ids : List SentRequestId) (requested : List SentAsk) (r : List (Option MessageToEditor)) (contents : List (List ℕ)) → AreMessagesToEditor ids requested r contents → versioned_publications_in_contents contents ≡ versions r
means_published ids requested [] [] h = refl
means_published ids requested (Some m ∷ r) (c ∷ contents) h = λ i. (sym (any_published (ask_number_of_json_id ids) requested c) ∙ ap versioned_publications_in_message h.0) i ++ means_published ids requested r contents h.1 i
means_published ids requested (None ∷ r) (c ∷ contents) h =
    λ i. (sym (any_published (ask_number_of_json_id (ids ++ [])) requested c) ∙ ap versioned_publications_in_message (h.0 [] requested)) i ++ means_published ids requested r contents h.1 i
means_published ids requested [] (c ∷ contents) h = absurd h
means_published ids requested (Some m ∷ r) [] h = absurd h
means_published ids requested (None ∷ r) [] h = absurd h

published_append : (xs ys : List (List ℕ)) → versioned_publications_in_contents (xs ++ ys) ≡ versioned_publications_in_contents xs ++ versioned_publications_in_contents ys
published_append [] ys = refl
published_append (c ∷ xs) ys = ap (λ ps. versioned_publications_in_message (message_to_editor_in_content [] c) ++ ps) (published_append xs ys) ∙ sym (append_assoc (versioned_publications_in_message (message_to_editor_in_content [] c)) (versioned_publications_in_contents xs) (versioned_publications_in_contents ys))

others_published : (said : List (Option MessageToEditor)) → modeled_messages said ≡ [] → versions said ≡ []
others_published [] none = refl
others_published (None ∷ said) none = others_published said none
others_published (Some m ∷ said) none = absurd (cc)

-- returns the sent parts of a publication of the model: its uri, its version and whether it is empty
abbrev named : PublicationWithText → VersionedPublication
named m = record { uri = m.uri; version = m.version; no_diagnostics = m.no_diagnostics }

publishes_named : (uri : List ℕ) (o : Option Document) (said : List MessageToEditor) (made : List PublicationWithText) → ServerSendsDiagnostics uri o said made → versions (map Some said) ≡ map named made
publishes_named uri (Some (InStep version text)) said made (empty, right, is_said, is_made) = ap (λ ms. versions (map Some ms)) is_said ∙ sym (ap (map named) is_made)
publishes_named uri (Some OutOfStep) said made h = ap (λ ms. versions (map Some ms)) h.0 ∙ sym (ap (map named) h.1)
publishes_named uri None said made h = ap (λ ms. versions (map Some ms)) h.0 ∙ sym (ap (map named) h.1)

replies_named : (held : OpenDocuments) (m : MessageToServer) (said : List MessageToEditor) (made : List PublicationWithText) → ServerRepliesToMessage held m said made → versions (map Some said) ≡ map named made
replies_named held (notifies (Opened uri version text)) said made h = publishes_named uri (document_at (documents_after_event held (Opened uri version text)) uri) said made h
replies_named held (notifies (Changed uri version how)) said made h = publishes_named uri (document_at (documents_after_event held (Changed uri version how)) uri) said made h
replies_named held (notifies (Lost uri)) said made h = ap (λ ms. versions (map Some ms)) h.0 ∙ sym (ap (map named) h.1)
replies_named held (notifies (Closed uri)) said made h = ap (λ ms. versions (map Some ms)) h.0 ∙ go (is_some (document_at held uri)) ∙ sym (ap (map named) h.1)
  where
    go : (b : Bool) → versions (map Some (cond b (publishes uri None true ∷ []) [])) ≡ []
    go true = refl
    go false = refl
replies_named held (requests k uri ask) said made (edits, may, is_said, is_made) = ap (λ ms. versions (map Some ms)) is_said ∙ sym (ap (map named) is_made)

-- states that the contents sent since `got` publish exactly the publications that were made
record Shown (got : List (List ℕ)) (wire : Wire) (made : List PublicationWithText) : Type 0 where
  since : List (List ℕ)
  sent : wire.got ++ wire.to_editor ≡ got ++ since
  published : versioned_publications_in_contents since ≡ map named made

shown_written : (got contents : List (List ℕ)) (wire : Wire) (made : List PublicationWithText) → Shown got wire made → Shown got (wire_with_queued_contents wire contents) made
shown_written got contents wire made h = record { since = h.since; sent = h.sent; published = h.published }

shown_served : (got more taken rest : List (List ℕ)) (wire : Wire) (after : ServerState) (made these : List PublicationWithText) → Shown got wire made → versioned_publications_in_contents more ≡ map named these
    → Shown got (record wire { session = after; taken = taken; to_server = rest; to_editor = wire.to_editor ++ more }) (made ++ these)
shown_served got more taken rest wire after made these h new =
    record {
      since = h.since ++ more;
      sent = sym (append_assoc wire.got wire.to_editor more) ∙ ap (λ xs. xs ++ more) h.sent ∙ append_assoc got h.since more;
      published = published_append h.since more ∙ (λ i. h.published i ++ new i) ∙ sym (map-append named made these);
    }

shown_got : (got rest : List (List ℕ)) (content : List ℕ) (wire : Wire) (made : List PublicationWithText) → wire.to_editor ≡ content ∷ rest → Shown got wire made → Shown got (record wire { got = wire.got ++ content ∷ []; to_editor = rest }) made
shown_got got rest content wire made waits h =
    record { since = h.since; sent = append_assoc wire.got (content ∷ []) rest ∙ ap (λ xs. wire.got ++ xs) (sym waits) ∙ h.sent; published = h.published }

-- ---- what is replied to asks and notifications

session_served : (ids : List SentRequestId) (requested : List SentAsk) (m : MessageToServer) (before after : ServerState) (content : List ℕ) (sent : List (List ℕ)) → before.phase ≡ Running → IsMessageToSession before.client ids requested m content → Answers before content sent after
    → Served (ask_number_of_json_id ids) requested m before after sent
session_served ids requested (notifies note) before after content sent running is answered = note_answered (ask_number_of_json_id ids) requested note before after content sent running is answered
session_served ids requested (requests k uri (rename position name)) before after content sent running (id, is, of, takes) answered =
    ask_answered (ask_number_of_json_id ids) requested id k uri (rename position name) before after content sent running takes of.numbered of.is is answered
session_served ids requested (requests k uri (inline_here position)) before after content sent running (id, is, of, takes) answered =
    actions_answered (ask_number_of_json_id ids) requested OneUse id k uri position before after content sent running takes of.numbered of.is is answered
session_served ids requested (requests k uri (inline_all position)) before after content sent running (id, is, of, takes) answered =
    actions_answered (ask_number_of_json_id ids) requested Everywhere id k uri position before after content sent running takes of.numbered of.is is answered
session_served ids requested (requests k uri (format indent)) before after content sent running (id, is, of, takes) answered =
    ask_answered (ask_number_of_json_id ids) requested id k uri (format indent) before after content sent running takes of.numbered of.is is answered

-- ---- turn by turn

-- returns the model's state of an exchange, with these messages in its queues
abbrev model_of : Exchange → List (Option MessageToServer) → List (Option MessageToEditor) → List PublicationWithText → EditorAndServer
model_of x q r made =
    record {
      editor = x.editor;
      to_server = q;
      held = x.wire.session.held;
      to_editor = r;
      announced = x.announced;
      applied = x.applied;
      made = made;
    }

record Tied (got : List (List ℕ)) (x : Exchange) (q : List (Option MessageToServer)) (r : List (Option MessageToEditor)) (made : List PublicationWithText) : Type 0 where
  says : AreMessagesToSession x.wire.session.client x.ids x.editor.requested q x.wire.to_server
  means : AreMessagesToEditor x.ids x.editor.requested r x.wire.to_editor
  running : x.wire.session.phase ≡ Running
  conversed : Conversed x.wire
  shown : Shown got x.wire made

record Step (got : List (List ℕ)) (w : EditorAndServer) (turn : ExchangeTurn) (y : Exchange) : Type 0 where
  q : List (Option MessageToServer)
  r : List (Option MessageToEditor)
  made : List PublicationWithText
  happens : TurnMayLeadTo w turn (model_of y q r made)
  tied : Tied got y q r made

module _ (got : List (List ℕ)) (x : Exchange) (made : List PublicationWithText) where
  does_step : (q : List (Option MessageToServer)) (r : List (Option MessageToEditor)) (move : EditorMove) (y : Exchange) → Tied got x q r made → ExchangeTakesTurn x (editor_moves move) y → Step got (model_of x q r made) (editor_moves move) y
  does_step q r move y tied (done, announced, ids, contents, may, names, say, is) =
      let client : ClientFeatures = x.wire.session.client in
      let known : List SentAsk = x.editor.requested in
      let more : AsksMore x.editor done = asks_more x.editor move done announced may in
      let later : (later : List SentRequestId) × (ids ≡ x.ids ++ later) = names_more x.ids done.sent ids names in
      subst (Step got (model_of x q r made) (editor_moves move)) (sym is)
      (record {
        q = q ++ map Some done.sent;
        r = r;
        made = made;
        happens = (done, announced, may, refl);
        tied = record {
          says = says_append client ids done.editor.requested q (map Some done.sent) x.wire.to_server contents
              (subst (λ asks. AreMessagesToSession client ids asks q x.wire.to_server) (sym more.1)
              (subst (λ all. AreMessagesToSession client all (known ++ more.0) q x.wire.to_server) (sym later.1) (says_on client x.ids later.0 known more.0 q x.wire.to_server tied.says)))
              say;
          means = subst (λ asks. AreMessagesToEditor ids asks r x.wire.to_editor) (sym more.1)
              (subst (λ all. AreMessagesToEditor all (known ++ more.0) r x.wire.to_editor) (sym later.1) (means_on client x.ids later.0 known more.0 r x.wire.to_editor tied.means));
          running = tied.running;
          conversed = written_conversed x.wire contents tied.conversed;
          shown = shown_written got contents x.wire made tied.shown;
        };
      })

  says_step : (q : List (Option MessageToServer)) (r : List (Option MessageToEditor)) (y : Exchange) → Tied got x q r made → ExchangeTakesTurn x editor_sends_unmodeled_message y → Step got (model_of x q r made) editor_sends_unmodeled_message y
  says_step q r y tied (id, content, is_other, is) =
      let client : ClientFeatures = x.wire.session.client in
      let known : List SentAsk = x.editor.requested in
      let ids : List SentRequestId = ids_with_non_ask_id x.ids id in
      let later : (later : List SentRequestId) × (ids ≡ x.ids ++ later) = others_more x.ids id in
      subst (Step got (model_of x q r made) editor_sends_unmodeled_message) (sym is)
      (record {
        q = q ++ None ∷ [];
        r = r;
        made = made;
        happens = refl;
        tied = record {
          says = says_append client ids known q (None ∷ []) x.wire.to_server (content ∷ [])
              (subst (λ asks. AreMessagesToSession client ids asks q x.wire.to_server) (append-nil known)
              (subst (λ all. AreMessagesToSession client all (known ++ []) q x.wire.to_server) (sym later.1) (says_on client x.ids later.0 known [] q x.wire.to_server tied.says)))
              (is_other, tt);
          means = subst (λ asks. AreMessagesToEditor ids asks r x.wire.to_editor) (append-nil known)
              (subst (λ all. AreMessagesToEditor all (known ++ []) r x.wire.to_editor) (sym later.1) (means_on client x.ids later.0 known [] r x.wire.to_editor tied.means));
          running = tied.running;
          conversed = written_conversed x.wire (content ∷ []) tied.conversed;
          shown = shown_written got (content ∷ []) x.wire made tied.shown;
        };
      })

  serve_step : (q : List (Option MessageToServer)) (r : List (Option MessageToEditor)) (contents : List (List ℕ)) (wire : Wire) → x.wire.to_server ≡ contents → Tied got x q r made → SessionTakesFirstContent contents x.wire wire → Step got (model_of x q r made) server_takes_message (record x { wire = wire })
  serve_step [] r [] wire waits tied is =
      record {
        q = [];
        r = r;
        made = made;
        happens = ap (λ v. model_of (record x { wire = v }) [] r made) is;
        tied = subst (λ v. Tied got (record x { wire = v }) [] r made) (sym is) tied;
      }
  serve_step (Some m ∷ q) r (c ∷ rest) wire waits tied (after, sent, answered, is) =
      let client : ClientFeatures = x.wire.session.client in
      let known : List SentAsk = x.editor.requested in
      let says : AreMessagesToSession client x.ids known (Some m ∷ q) (c ∷ rest) = subst (AreMessagesToSession client x.ids known (Some m ∷ q)) waits tied.says in
      let s : Served (ask_number_of_json_id x.ids) known m x.wire.session after sent = session_served x.ids known m x.wire.session after c sent tied.running says.0 answered in
      let now : Wire = record x.wire { session = after; taken = x.wire.taken ++ c ∷ []; to_server = rest; to_editor = x.wire.to_editor ++ sent } in
      let more : List PublicationWithText = option_to_list (publication_in_first_message after.held s.said) in
      let means : AreMessagesToEditor x.ids known (map Some s.said) sent = subst (λ ms. AreMessagesToEditor x.ids known (map Some ms) sent) s.message_to_server_in_content.all (each_means client x.ids known sent s.message_to_server_in_content.each) in
      let y : Exchange = record x { wire = now } in
      subst (λ v. Step got (model_of x (Some m ∷ q) r made) server_takes_message (record x { wire = v })) (sym is)
      (record {
        q = q;
        r = r ++ map Some s.said;
        made = made ++ more;
        happens = (s.said, more, s.replies, λ i. record (model_of y q (r ++ map Some s.said) (made ++ more)) { held = s.held i });
        tied = record {
          says = subst (λ c. AreMessagesToSession c x.ids known q rest) (sym s.client) says.1;
          means = means_append client x.ids known r (map Some s.said) x.wire.to_editor sent tied.means means;
          running = s.phase;
          conversed = takes_conversed (c ∷ rest) x.wire now (after, sent, answered, refl) tied.conversed;
          shown = shown_served got sent (x.wire.taken ++ c ∷ []) rest x.wire after made more tied.shown
              (means_published x.ids known (map Some s.said) sent means ∙ replies_named x.wire.session.held m s.said more s.replies);
        };
      })
  serve_step (None ∷ q) r (c ∷ rest) wire waits tied (after, sent, answered, is) =
      let client : ClientFeatures = x.wire.session.client in
      let known : List SentAsk = x.editor.requested in
      let says : AreMessagesToSession client x.ids known (None ∷ q) (c ∷ rest) = subst (AreMessagesToSession client x.ids known (None ∷ q)) waits tied.says in
      let s : OtherServed x.ids known x.wire.session after sent = other_served x.ids known x.wire.session after sent c tied.running says.0 answered in
      let now : Wire = record x.wire { session = after; taken = x.wire.taken ++ c ∷ []; to_server = rest; to_editor = x.wire.to_editor ++ sent } in
      let y : Exchange = record x { wire = now } in
      subst (λ v. Step got (model_of x (None ∷ q) r made) server_takes_message (record x { wire = v })) (sym is)
      (record {
        q = q;
        r = r ++ s.said;
        made = made;
        happens = (s.said, s.none, λ i. record (model_of y q (r ++ s.said) made) { held = (s.same i).held });
        tied = record {
          says = subst (λ (v : ServerState). AreMessagesToSession v.client x.ids known q rest) (sym s.same) says.1;
          means = means_append client x.ids known r s.said x.wire.to_editor sent tied.means s.means;
          running = subst (λ (v : ServerState). v.phase ≡ Running) (sym s.same) tied.running;
          conversed = takes_conversed (c ∷ rest) x.wire now (after, sent, answered, refl) tied.conversed;
          shown = subst (Shown got now) (append-nil made)
              (shown_served got sent (x.wire.taken ++ c ∷ []) rest x.wire after made [] tied.shown (means_published x.ids known s.said sent s.means ∙ others_published s.said s.none));
        };
      })
  serve_step [] r (c ∷ rest) wire waits tied takes = absurd (subst (AreMessagesToSession x.wire.session.client x.ids x.editor.requested []) waits tied.says)
  serve_step (Some m ∷ q) r [] wire waits tied takes = absurd (subst (AreMessagesToSession x.wire.session.client x.ids x.editor.requested (Some m ∷ q)) waits tied.says)
  serve_step (None ∷ q) r [] wire waits tied takes = absurd (subst (AreMessagesToSession x.wire.session.client x.ids x.editor.requested (None ∷ q)) waits tied.says)

  reads_asks : (e : Editor) (m : MessageToEditor) → (editor_after_message e m).requested ≡ e.requested
  reads_asks e (publishes uri version empty) = refl
  reads_asks e (answers k []) = refl
  reads_asks e (answers k (edit ∷ edits)) = refl

  -- The contents still say the messages after the editor has got a content and become e.
  got_so : (q : List (Option MessageToServer)) (r rest_meant : List (Option MessageToEditor)) (content : List ℕ) (rest : List (List ℕ)) (e : Editor) → x.wire.to_editor ≡ content ∷ rest → Tied got x q r made → e.requested ≡ x.editor.requested → AreMessagesToEditor x.ids x.editor.requested rest_meant rest
      → Tied got (record x { editor = e; wire = record x.wire { got = x.wire.got ++ content ∷ []; to_editor = rest } }) q rest_meant made
  got_so q r rest_meant content rest e waits tied same means =
      record {
        says = subst (λ asks. AreMessagesToSession x.wire.session.client x.ids asks q x.wire.to_server) (sym same) tied.says;
        means = subst (λ asks. AreMessagesToEditor x.ids asks rest_meant rest) (sym same) means;
        running = tied.running;
        conversed = gets_conversed (content ∷ rest) x.wire (record x.wire { got = x.wire.got ++ content ∷ []; to_editor = rest }) waits refl tied.conversed;
        shown = shown_got got rest content x.wire made waits tied.shown;
      }

  get_step : (q : List (Option MessageToServer)) (r : List (Option MessageToEditor)) (contents : List (List ℕ)) (y : Exchange) → x.wire.to_editor ≡ contents → Tied got x q r made → EditorReadsFirstContent contents x y → Step got (model_of x q r made) editor_takes_message y
  get_step q [] [] y waits tied is =
      record { q = q; r = []; made = made; happens = ap (λ v. model_of v q [] made) is; tied = subst (λ v. Tied got v q [] made) (sym is) tied }
  get_step q (Some m ∷ r) (c ∷ rest) y waits tied is =
      let means : AreMessagesToEditor x.ids x.editor.requested (Some m ∷ r) (c ∷ rest) = subst (AreMessagesToEditor x.ids x.editor.requested (Some m ∷ r)) waits tied.means in
      let now : Wire = record x.wire { got = x.wire.got ++ c ∷ []; to_editor = rest } in
      subst (Step got (model_of x q (Some m ∷ r) made) editor_takes_message) (sym (is ∙ (λ i. record x { editor = editor_after_optional_message x.editor (means.0 i); wire = now })))
      (record { q = q; r = r; made = made; happens = refl; tied = got_so q (Some m ∷ r) r c rest (editor_after_message x.editor m) waits tied (reads_asks x.editor m) means.1 })
  get_step q (None ∷ r) (c ∷ rest) y waits tied is =
      let means : AreMessagesToEditor x.ids x.editor.requested (None ∷ r) (c ∷ rest) = subst (AreMessagesToEditor x.ids x.editor.requested (None ∷ r)) waits tied.means in
      let now : Wire = record x.wire { got = x.wire.got ++ c ∷ []; to_editor = rest } in
      let none : message_to_editor_given_ids x.ids x.editor.requested c ≡ None = subst (λ all. message_to_editor_given_ids all x.editor.requested c ≡ None) (append-nil x.ids) (means.0 [] x.editor.requested) in
      subst (Step got (model_of x q (None ∷ r) made) editor_takes_message) (sym (is ∙ (λ i. record x { editor = editor_after_optional_message x.editor (none i); wire = now })))
      (record { q = q; r = r; made = made; happens = refl; tied = got_so q (None ∷ r) r c rest x.editor waits tied refl means.1 })
  get_step q [] (c ∷ rest) y waits tied is = absurd (subst (AreMessagesToEditor x.ids x.editor.requested []) waits tied.means)
  get_step q (Some m ∷ r) [] y waits tied is = absurd (subst (AreMessagesToEditor x.ids x.editor.requested (Some m ∷ r)) waits tied.means)
  get_step q (None ∷ r) [] y waits tied is = absurd (subst (AreMessagesToEditor x.ids x.editor.requested (None ∷ r)) waits tied.means)

  turn_step : (q : List (Option MessageToServer)) (r : List (Option MessageToEditor)) (turn : ExchangeTurn) (y : Exchange) → Tied got x q r made → ExchangeTakesTurn x turn y → Step got (model_of x q r made) turn y
  turn_step q r (editor_moves move) y tied h = does_step q r move y tied h
  turn_step q r editor_sends_unmodeled_message y tied h = says_step q r y tied h
  turn_step q r server_takes_message y tied (wire, takes, is) = subst (Step got (model_of x q r made) server_takes_message) (sym is) (serve_step q r x.wire.to_server wire refl tied takes)
  turn_step q r editor_takes_message y tied h = get_step q r x.wire.to_editor y refl tied h

-- ---- all turns

record Led (got : List (List ℕ)) (w : EditorAndServer) (turns : List ExchangeTurn) (y : Exchange) : Type 0 where
  q : List (Option MessageToServer)
  r : List (Option MessageToEditor)
  made : List PublicationWithText
  leads : IsCourseOfTurns w turns (model_of y q r made)
  tied : Tied got y q r made

turns_lead : (got : List (List ℕ)) (turns : List ExchangeTurn) (x y : Exchange) (q : List (Option MessageToServer)) (r : List (Option MessageToEditor)) (made : List PublicationWithText) → Tied got x q r made → IsExchangeCourse x turns y → Led got (model_of x q r made) turns y
turns_lead got [] x y q r made tied is = record { q = q; r = r; made = made; leads = ap (λ v. model_of v q r made) is; tied = subst (λ v. Tied got v q r made) (sym is) tied }
turns_lead got (turn ∷ turns) x y q r made tied (between, exchanges, rest) =
    let step : Step got (model_of x q r made) turn between = turn_step got x made q r turn between tied exchanges in
    let led : Led got (model_of between step.q step.r step.made) turns y = turns_lead got turns between y step.q step.r step.made step.tied rest in
    record { q = led.q; r = led.r; made = led.made; leads = (model_of between step.q step.r step.made, step.happens, led.leads); tied = led.tied }

begun_led : (unit : Unit) (begin now : Exchange) (turns : List ExchangeTurn) → IsInitialExchange unit begin → IsExchangeCourse begin turns now → Led begin.wire.got (initial_editor_and_server unit) turns now
begun_led unit begin now turns b leads =
    let tied : Tied begin.wire.got begin [] [] [] =
    subst (λ (x : Exchange). Tied x.wire.got x [] [] []) (sym b.is)
    (record {
      says = tt;
      means = tt;
      running = refl;
      conversed = initialized_conversed b.client b.taken b.got b.initialized;
      shown = record { since = []; sent = refl; published = refl };
    }) in
    let first : model_of begin [] [] [] ≡ initial_editor_and_server unit = ap (λ x. model_of x [] [] []) b.is ∙ (λ i. record (initial_editor_and_server unit) { held = no_open_documents (b.counts i) }) in
    subst (λ w. Led begin.wire.got w turns now) first (turns_lead begin.wire.got turns begin now [] [] [] tied leads)

pub every_exchange_follows_model : EveryExchangeFollowsModel
every_exchange_follows_model unit begin now turns b leads =
    let led : Led begin.wire.got (initial_editor_and_server unit) turns now = begun_led unit begin now turns b leads in
    record {
      model = model_of now led.q led.r led.made;
      leads = led.leads;
      editor = refl;
      held = refl;
      announced = refl;
      applied = refl;
      says = led.tied.says;
      means = led.tied.means;
      holds = guarantees_hold_for_every_editor unit turns (model_of now led.q led.r led.made) led.leads;
      conversation = as_conversation now.wire led.tied.conversed;
    }

-- ---- the headline of an exchange

-- Publications that are right and made for these documents are right of them when sent.
right_of : (made : List PublicationWithText) (announced : List AnnouncedDocument) → All IsCorrectPublication made → AreMadeForDocumentsInOrder made announced → AreCorrectForDocuments (map named made) announced
right_of [] [] all h = tt
right_of (m ∷ made) (t ∷ announced) all ((uri_is, version_is, text_is), rest) = (
  uri_is,
  version_is,
  subst (λ text. NoDiagnosticsExactlyIfWellTyped text m.no_diagnostics) text_is (All-head IsCorrectPublication m made all),
  right_of made announced (All-tail IsCorrectPublication m made all) rest,
)
right_of [] (t ∷ announced) all h = absurd h
right_of (m ∷ made) [] all h = absurd h

-- The sent parts of the last publication for a uri are the last sent parts for that uri.
last_named : (uri : List ℕ) (last : Option PublicationWithText) (made : List PublicationWithText)
    → fold (λ last p. cond (bytes_eq p.uri uri) (Some p) last) (option_map named last) (map named made) ≡ option_map named (fold (λ last m. cond (bytes_eq m.uri uri) (Some m) last) last made)
last_named uri last [] = refl
last_named uri last (m ∷ made) =
    ap (λ o. fold (λ last p. cond (bytes_eq p.uri uri) (Some p) last) o (map named made)) (sym (mapped_choice named (bytes_eq m.uri uri) (Some m) last)) ∙ last_named uri (cond (bytes_eq m.uri uri) (Some m) last) made

-- If all publications are right, the last one for a uri is right.
last_right : (uri : List ℕ) (last : Option PublicationWithText) (made : List PublicationWithText) → MatchOption last ⊤ IsCorrectPublication → All IsCorrectPublication made → MatchOption (fold (λ last m. cond (bytes_eq m.uri uri) (Some m) last) last made) ⊤ IsCorrectPublication
last_right uri last [] h all = h
last_right uri last (m ∷ made) h all = last_right uri (cond (bytes_eq m.uri uri) (Some m) last) made (go (bytes_eq m.uri uri)) (All-tail IsCorrectPublication m made all)
  where
    go : (b : Bool) → MatchOption (cond b (Some m) last) ⊤ IsCorrectPublication
    go true = All-head IsCorrectPublication m made all
    go false = h

latest_right : (d : OpenDocument) (o : Option PublicationWithText) → MatchOption o ⊥ (λ m. (m.version ≡ d.version) × (m.text ≡ d.text)) → MatchOption o ⊤ IsCorrectPublication
    → MatchOption (option_map named o) ⊥ (λ p. (p.version ≡ d.version) × NoDiagnosticsExactlyIfWellTyped d.text p.no_diagnostics)
latest_right d None h right = h
latest_right d (Some m) h right = (h.0, subst (λ text. NoDiagnosticsExactlyIfWellTyped text m.no_diagnostics) h.1 right)

-- ---- the meaning of waiting contents

-- Without known asks no request is read.
none_read : (o : Option ℕ) → option_and_then (message_of_sent_ask []) o ≡ None
none_read None = refl
none_read (Some zero) = refl
none_read (Some (suc k)) = refl

request_unheard : (content : List ℕ) (json id params : Data) (method : List ℕ) → IsJsonOfContent content (Some json) → meaning_of_message json ≡ request id method params → message_to_server_in_content [] content ≡ None
unfolding message_to_server_in_content
request_unheard content json id params method reads_so means =
    said (λ d. message_to_server_of_meaning [] (meaning_of_message d)) content json reads_so ∙ ap (message_to_server_of_meaning []) means ∙ none_read (request_number_from_id id)

ask_unheard : (id : Data) (uri : List ℕ) (ask : Ask) (content : List ℕ) → IsRequestForAsk id uri ask content → message_to_server_in_content [] content ≡ None
ask_unheard id uri (rename position name) content is = request_unheard content is.json id is.params (codes "textDocument/rename") is.reads is.means
ask_unheard id uri (inline_here position) content is = request_unheard content is.json id is.params (codes "textDocument/codeAction") is.reads is.means
ask_unheard id uri (inline_all position) content is = request_unheard content is.json id is.params (codes "textDocument/codeAction") is.reads is.means
ask_unheard id uri (format indent) content is = request_unheard content is.json id is.params (codes "textDocument/formatting") is.reads is.means

other_unheard : (ids : List SentRequestId) (content : List ℕ) → IsUnmodeledContent ids content → message_to_server_in_content [] content ≡ None
unfolding message_to_server_in_content
other_unheard ids content (json, reads_so, is) = said (λ d. message_to_server_of_meaning [] (meaning_of_message d)) content json reads_so ∙ go (meaning_of_message json) is
  where
    go : (m : MessageMeaning) → IsUnmodeledMessage ids m → message_to_server_of_meaning [] m ≡ None
    go not_json is = refl
    go not_a_message is = refl
    go response is = refl
    go (request id method params) is = none_read (request_number_from_id id)
    go (notice method params) is = ap message_of_notification is

-- The notifications in the waiting contents are the notifications among the model's messages.
notes_waiting : (client : ClientFeatures) (ids : List SentRequestId) (requested : List SentAsk) (q : List (Option MessageToServer)) (contents : List (List ℕ)) → AreMessagesToSession client ids requested q contents → notifications_in_contents contents ≡ notifications_in_queue (modeled_messages q)
notes_waiting client ids requested [] [] h = refl
notes_waiting client ids requested (Some (notifies note) ∷ q) (c ∷ contents) h = λ i. cons_option (says_heard [] (notifies note) c h.0 i) (notes_waiting client ids requested q contents h.1 i)
notes_waiting client ids requested (Some (requests k uri ask) ∷ q) (c ∷ contents) ((id, is, of, takes), h) = λ i. cons_option (ask_unheard id uri ask c is i) (notes_waiting client ids requested q contents h i)
notes_waiting client ids requested (None ∷ q) (c ∷ contents) h = λ i. cons_option (other_unheard ids c h.0 i) (notes_waiting client ids requested q contents h.1 i)
notes_waiting client ids requested [] (c ∷ contents) h = absurd h
notes_waiting client ids requested (Some m ∷ q) [] h = absurd h
notes_waiting client ids requested (None ∷ q) [] h = absurd h

-- Only notifications announce documents.
notes_named : (q : List MessageToServer) → uris_and_versions_announced_in_queue q ≡ uris_and_versions_announced_in_queue (notifications_in_queue q)
notes_named [] = refl
notes_named (notifies note ∷ q) = ap (λ names. uri_and_version_announced_by_message (notifies note) ++ names) (notes_named q)
notes_named (requests k uri ask ∷ q) = notes_named q

notes_change : (held : OpenDocuments) (q : List MessageToServer) → fold documents_after_message held (notifications_in_queue q) ≡ fold documents_after_message held q
notes_change held [] = refl
notes_change held (notifies note ∷ q) = notes_change (documents_after_message held (notifies note)) q
notes_change held (requests k uri ask ∷ q) = notes_change held q

pub guarantees_hold_for_every_exchange : (unit : Unit) (begin now : Exchange) (turns : List ExchangeTurn) → IsInitialExchange unit begin → IsExchangeCourse begin turns now → GuaranteesHoldForExchange begin now
guarantees_hold_for_every_exchange unit begin now turns b leads =
    let led : Led begin.wire.got (initial_editor_and_server unit) turns now = begun_led unit begin now turns b leads in
    let w : EditorAndServer = model_of now led.q led.r led.made in
    let holds : GuaranteesHoldForEditorAndServer w = guarantees_hold_for_every_editor unit turns w led.leads in
    let shown : Shown begin.wire.got now.wire led.made = led.tied.shown in
    let waiting : List MessageToServer = modeled_messages led.q in
    let notes : notifications_in_contents now.wire.to_server ≡ notifications_in_queue waiting = notes_waiting now.wire.session.client now.ids now.editor.requested led.q now.wire.to_server led.tied.says in
    record {
      applied = holds.holds.applied;
      since = shown.since;
      sent = shown.sent;
      published_documents = holds.published;
      unpublished_documents = holds.waiting;
      announced = holds.all;
      right = subst (λ ps. AreCorrectForDocuments ps holds.published) (sym shown.published) (right_of led.made holds.published holds.holds.made holds.are_made_for_documents);
      unpublished_are_queued = holds.unpublished_are_queued ∙ notes_named waiting ∙ ap uris_and_versions_announced_in_queue (sym notes);
      latest = λ quiet uri d at.
          subst (λ o. MatchOption o ⊥ (λ p. (p.version ≡ d.version) × NoDiagnosticsExactlyIfWellTyped d.text p.no_diagnostics)) (sym (ap (last_versioned_publication uri) shown.published ∙ last_named uri None led.made))
          (latest_right d (last_publication uri led.made)
          (holds.latest (sym notes ∙ quiet) uri d at)
          (last_right uri None led.made tt holds.holds.made));
      mirrors = λ uri.
          ap (λ held. document_at held uri) (ap (fold documents_after_message now.wire.session.held) notes ∙ notes_change now.wire.session.held waiting) ∙ holds.mirrors uri;
      conversation = as_conversation now.wire led.tied.conversed;
      ends = λ id shutdown exit is_shutdown is_exit sent end talked. ends_well id now.wire.session shutdown exit sent end led.tied.running is_shutdown is_exit talked;
    }
