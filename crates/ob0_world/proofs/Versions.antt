-- Proves that an answer with edits mentions the document that was asked about. When the server
-- takes a request, its document has the version that the editor's document had when the request was
-- sent (`AsksHeld`). The session writes this version into the answer.
use Rattle.std.proofs.Common.{◌≡◌, ◌∙◌, ℕ, suc, Bool, true, false, cond, List, [], ◌∷◌, ◌++◌, length, append-nil, refl, sym, ap, subst, inl, inr, ◌+◌, ◌&&◌}
use Rattle.std.specs.Prelude.{◌⊎◌, ⊤, ℤ, pos, negsuc, Vec, All, Option, Some, None, is_some, fold, option_map, option_and_then, codes, Ok, ◌==◌}
use Rattle.std.specs.declared.alloc.Global.{Global}
use Rattle.std.proofs.lemmas.Bool.{eq-eqb}
use Rattle.std.proofs.lemmas.Option.{same_Some, none-some}
use Rattle.std.proofs.lemmas.List.Elements.{All-nil, All-push, All-tail, All-append, All-weaker}
use Rattle.serde_json.specs.Data.{Data, number, array, object, unsigned, item, no_items, member, no_members}
use Rattle.serde_json.specs.Find.{get, as_integer, of_integer}
use Rattle.ob0_text.specs.declared.edits.Edit.{Edit}
use Rattle.ob0_text.specs.declared.edits.Indent.{Indent}
use Rattle.ob0_text.specs.declared.position_types.Position.{Position}
use Rattle.ob0_text.specs.declared.position_types.Unit.{Unit}
use Rattle.ob0_text.specs.declared.position_types.Unit.TheVariants.{Utf16, Utf8}
use Rattle.ob0_text.specs.declared.refusals.EditRefusal.TheVariants.{TooLong}
use Rattle.ob0_text.specs.OpenDocuments.{OpenDocuments, Document, InStep, OutOfStep, DocumentEvent, Opened, Changed, Lost, Closed, document_at, documents_after_event, documents_after_open, documents_after_change}
use Rattle.ob0_text.specs.RefusalTexts.{refusal_text}
use Rattle.ob0_rpc.specs.Faults.{negative_of}
use Rattle.ob0_rpc.specs.Messages.{IsJsonOfContent, meaning_of_message}
use Rattle.ob0_rpc.specs.Requests.{request_by_method}
use Rattle.ob0_rpc.specs.JsonShapes.{result_message, error_response_message}
use Rattle.ob0_rpc.specs.declared.client_capabilities.ClientFeatures.{ClientFeatures}
use Rattle.ob0_session_answers.specs.Actions.{VersionedActionsRequest, ListsActions, actions_array}
use Rattle.ob0_session_answers.specs.FormattingAnswers.{AnswersFormattingRequest}
use Rattle.ob0_session_answers.specs.RenamingAnswers.{VersionedRenameRequest, AnswersRenameRequest}
use Rattle.ob0_session_json.specs.JsonShapes.{document_edit_value, edit_list_value, workspace_edit_value, publication}
use Rattle.ob0_session_server.specs.Answers as answers_of
use Rattle.ob0_session_server.specs.Answers.{ServerState, Reply, AreContentsOfReply, SendsMessage, Reaction, state_after_initialize, react_to_message, apply_notification, react_to_notification, react_to_allowed_request, react_to_parsed_request, react_to_document_request, formatting_reply, rename_reply, actions_reply, publication_reply, Answers, AnswersInPhase, AnswersInActivePhase, fixed_reply}
use Rattle.ob0_session_server.specs.ClientUnits.{unit_for_client}
use Rattle.ob0_world_editor.specs.InitializeRequest.{client_features_for_unit}
use Rattle.ob0_world_editor.specs.MessagesToServer.{IsMessageToServer, SentRequestAsksForEdits, notification_for_event, client_request_for_ask, request_number_from_id}
use Rattle.ob0_world_editor.specs.Shapes.{method_of_ask}
use Rattle.ob0_world_editor.specs.MessagesToEditor.{edits_in_answer}
use Rattle.ob0_world_rules.specs.Answers.{InliningKind, OneUse, Everywhere}
use Rattle.ob0_world_rules.specs.Asks.{Ask, rename, inline_here, inline_all, format, clamped_indent}
use Rattle.ob0_world_rules.specs.TextEdits.{text_after_edits, whole_text_change}
use Rattle.ob0_world_rules.specs.EditorActs.{EditorAct, ActResult, next_version, is_same_version, act_result, result_of_changing_text, document_if_unchanged_since_ask}
use Rattle.ob0_world_rules.specs.ClientAndServer.{OpenDocument, SentAsk, sent_ask_with_number, editor_document_with_uri, MessageToServer, notifies, requests, MessageToEditor, publishes, answers, ClientAndServer, initial_client_and_server, documents_after_message}
use Rattle.ob0_world_rules.specs.Events.{Event, editor_acts, serve, take_message, state_after_editor_takes_message, ServerTakesFirstMessage}
use Rattle.ob0_world_rules.specs.MirroredDocuments.{in_step_document, ServerWillMirrorEditor}
use Rattle.ob0_world_rules.proofs.PerformsAct.{of_each}
use Rattle.ob0_world_rules.proofs.Asked.{numbered_push, slice_get_last}
use Rattle.ob0_world.specs.Queues.{IsReachable, RunsWithModelEditor}
use Rattle.ob0_world.specs.Versions.{uri_and_version_in_answer, uri_and_version_in_edit, MentionsAskedDocument, ContentMentionsAskedDocument, IsFormatting, AnswersMentionVersions, VersionsSufficeToApplyAnswers}
use Rattle.ob0_world.specs.Worlds.{Wire, Connection, IsInitialConnection, SessionTakesFirstContent, EditorTakesFirstContent, AreMessagesToServer, QueuesMatch, ConnectionSteps, IsConnectionCourse}
use Rattle.ob0_world.proofs.Answering.{reacts_so, request_reaction, served, runs_on, inlining_at, none_read_back, actions_requested_at}
use Rattle.ob0_world.proofs.Stepping.{reached_start, reached_more, reached_mirrors}

-- ---- what the server holds as it takes a request

-- states that the document has the version that it had when request k was sent
pub record IsHeldAsAsked (requested : List SentAsk) (held : OpenDocuments) (k : ℕ) (uri : List ℕ) : Type 0 where
  pub sent : SentAsk
  pub is : sent_ask_with_number requested k ≡ Some sent
  pub text : List ℕ
  pub holds : document_at held uri ≡ Some (InStep sent.version text)

-- holds if the server, when it takes each waiting request, has the document with the version that it had when the
-- request was sent
abbrev pub AsksHeld : List SentAsk → OpenDocuments → List MessageToServer → Type 0
AsksHeld requested held [] = ⊤
AsksHeld requested held (notifies note ∷ rest) = AsksHeld requested (documents_after_event held note) rest
AsksHeld requested held (requests k uri ask ∷ rest) = IsHeldAsAsked requested held k uri × AsksHeld requested held rest

asks_more : (requested more : List SentAsk) (held : OpenDocuments) (q : List MessageToServer) → AsksHeld requested held q → AsksHeld (requested ++ more) held q
asks_more requested more held [] h = tt
asks_more requested more held (notifies note ∷ rest) h = asks_more requested more (documents_after_event held note) rest h
asks_more requested more held (requests k uri ask ∷ rest) (h, others) =
    (record { sent = h.sent; is = numbered_push requested more k h.sent h.is; text = h.text; holds = h.holds }, asks_more requested more held rest others)

asks_append : (requested : List SentAsk) (held : OpenDocuments) (q more : List MessageToServer) → AsksHeld requested held q → AsksHeld requested (fold documents_after_message held q) more → AsksHeld requested held (q ++ more)
asks_append requested held [] more h k = k
asks_append requested held (notifies note ∷ rest) more h k = asks_append requested (documents_after_event held note) rest more h k
asks_append requested held (requests n uri ask ∷ rest) more (h, others) k = (h, asks_append requested held rest more others k)

-- If the property holds of a queue, it holds of its first message, and of the rest after that message.
sees_first : (requested : List SentAsk) (held : OpenDocuments) (m : MessageToServer) (rest : List MessageToServer) → AsksHeld requested held (m ∷ rest) → AsksHeld requested held (m ∷ []) × AsksHeld requested (documents_after_message held m) rest
sees_first requested held (notifies note) rest h = (tt, h)
sees_first requested held (requests k uri ask) rest h = ((h.0, tt), h.1)

-- ---- an act

names_more : (requested more : List SentAsk) (contents : List (List ℕ)) → All (ContentMentionsAskedDocument requested) contents → All (ContentMentionsAskedDocument (requested ++ more)) contents
names_more requested more contents all =
    All-weaker (ContentMentionsAskedDocument requested) (ContentMentionsAskedDocument (requested ++ more))
    (λ content names answer k reads is. let n = names answer k reads is in (n.0, numbered_push requested more k n.0 n.1, n.2))
    contents all

abbrev Keeps : ClientAndServer → List (List ℕ) → ActResult → Type 0
Keeps w contents done = AsksHeld done.editor.requested w.held (w.to_server ++ done.sent) × All (ContentMentionsAskedDocument done.editor.requested) contents

module _ (w : ClientAndServer) (contents : List (List ℕ)) (mirrors : ServerWillMirrorEditor w) (asked : AsksHeld w.editor.requested w.held w.to_server) (named : All (ContentMentionsAskedDocument w.editor.requested) contents) where
  quiet : AsksHeld w.editor.requested w.held (w.to_server ++ [])
  quiet = subst (AsksHeld w.editor.requested w.held) (sym (append-nil w.to_server)) asked

  noted : (note : DocumentEvent) → AsksHeld w.editor.requested w.held (w.to_server ++ notifies note ∷ [])
  noted note = asks_append w.editor.requested w.held w.to_server (notifies note ∷ []) asked tt

  asks_now : (uri : List ℕ) (ask : Ask) (d : OpenDocument) → editor_document_with_uri w.editor uri ≡ Some d → (a : SentAsk) → a.version ≡ d.version
      → AsksHeld (w.editor.requested ++ a ∷ []) w.held (w.to_server ++ requests (suc (length w.editor.requested)) uri ask ∷ []) × All (ContentMentionsAskedDocument (w.editor.requested ++ a ∷ [])) contents
  asks_now uri ask d is a same =
      let this : IsHeldAsAsked (w.editor.requested ++ a ∷ []) (fold documents_after_message w.held w.to_server) (suc (length w.editor.requested)) uri = record {
        sent = a;
        is = slice_get_last w.editor.requested a;
        text = d.text;
        holds = mirrors uri ∙ ap (option_map in_step_document) is ∙ ap (λ v. Some (InStep v d.text)) (sym same);
      } in (
        asks_append (w.editor.requested ++ a ∷ []) w.held w.to_server (requests (suc (length w.editor.requested)) uri ask ∷ []) (asks_more w.editor.requested (a ∷ []) w.held w.to_server asked) (this, tt),
        names_more w.editor.requested (a ∷ []) contents named,
      )

  act_keeps : (act : EditorAct) → Keeps w contents (act_result w.editor act)
  act_keeps =
      of_each w.editor (Keeps w contents)
      (record {
        still = (quiet, named);
        opened = λ uri text none. (noted (Opened uri (pos 1) text), named);
        changed = λ uri d how text at made. (noted (Changed uri (next_version d.version) how), named);
        closed = λ uri d at. (noted (Closed uri), named);
        asked = λ uri ask d at. asks_now uri ask d at (record { ask = ask; uri = uri; text = d.text; opening = d.opening; version = d.version }) refl;
        made = λ k edits a d text held numbered same makes. (noted (Changed a.uri (next_version d.version) (whole_text_change text ∷ [])), named);
        dropped = λ k. (quiet, named);
      })

-- ---- what a session writes

same_data : (content : List ℕ) (d e : Data) → IsJsonOfContent content (Some d) → IsJsonOfContent content (Some e) → d ≡ e
same_data content d e one other = same_Some d e (sym one.1 ∙ other.1)

abbrev Names : List SentAsk → ℕ → Data → Type 0
Names requested k answer = (a : SentAsk) × (sent_ask_with_number requested k ≡ Some a) × MentionsAskedDocument a answer

-- If one message is sent, `ContentMentionsAskedDocument` holds of the sent contents if it holds of that message.
sent_one : (requested : List SentAsk) (message : Data) (sent : List (List ℕ)) → SendsMessage message sent → ((k : ℕ) → option_and_then request_number_from_id (get (codes "id") message) ≡ Some k → Names requested k message) → All (ContentMentionsAskedDocument requested) sent
sent_one requested message sent (content, is, writes) names =
    subst (All (ContentMentionsAskedDocument requested)) (sym is) (All-push (ContentMentionsAskedDocument requested) [] content (All-nil (ContentMentionsAskedDocument requested)) this)
  where
    this : ContentMentionsAskedDocument requested content
    this answer k reads numbered =
        let same : message ≡ answer = same_data content message answer writes.reads reads in
        subst (Names requested k) same (names k (subst (λ m. option_and_then request_number_from_id (get (codes "id") m) ≡ Some k) (sym same) numbered))

sent_none : (requested : List SentAsk) (sent : List (List ℕ)) → sent ≡ [] → All (ContentMentionsAskedDocument requested) sent
sent_none requested sent none = subst (All (ContentMentionsAskedDocument requested)) (sym none) (All-nil (ContentMentionsAskedDocument requested))

-- A publication answers no request, so `ContentMentionsAskedDocument` holds of it.
published_names : (requested : List SentAsk) (unit : Unit) (uri : List ℕ) (o : Option Document) (sent : List (List ℕ)) → AreContentsOfReply (publication_reply unit uri o) sent → All (ContentMentionsAskedDocument requested) sent
published_names requested unit uri (Some (InStep version text)) sent (ds, diagnoses, sends) = sent_one requested (publication uri (Some version) ds) sent sends (λ k numbered. absurd (none-some k numbered))
published_names requested unit uri (Some OutOfStep) sent saying = sent_none requested sent saying
published_names requested unit uri None sent saying = sent_none requested sent saying

note_names : (requested : List SentAsk) (note : DocumentEvent) (before : ServerState) (sent : List (List ℕ)) → AreContentsOfReply (apply_notification before (notification_for_event note)).reply sent → All (ContentMentionsAskedDocument requested) sent
note_names requested (Opened uri version text) before sent saying =
    published_names requested before.held.unit uri (document_at (documents_after_open before.held uri version text) uri) sent saying
note_names requested (Changed uri version how) before sent saying =
    published_names requested before.held.unit uri (document_at (documents_after_change before.held uri version how) uri) sent saying
note_names requested (Lost uri) before sent saying = sent_none requested sent saying
note_names requested (Closed uri) before sent saying = go (is_some (document_at before.held uri)) saying
  where
    go : (b : Bool) → AreContentsOfReply (cond b (fixed_reply (publication uri None [])) answers_of.no_reply) sent → All (ContentMentionsAskedDocument requested) sent
    go true saying = sent_one requested (publication uri None []) sent saying (λ k numbered. absurd (none-some k numbered))
    go false saying = sent_none requested sent saying

integer_back : (z : ℤ) → as_integer (of_integer z) ≡ Some z
integer_back (pos n) = refl
integer_back (negsuc n) = refl

-- The uri and the version that a WorkspaceEdit has are read back.
edit_names : (client : ClientFeatures) (uri : List ℕ) (version : ℤ) (edits : List Edit) → client.accepts_document_changes ≡ true → uri_and_version_in_edit (workspace_edit_value client uri version edits) ≡ Some (uri, version)
edit_names client uri version edits takes = go client.accepts_document_changes takes
  where
    pair : ℤ → List ℕ × ℤ
    pair v = (uri, v)

    go : (b : Bool) → b ≡ true
        → uri_and_version_in_edit (cond b (object (member (codes "documentChanges") (array (item (document_edit_value uri version edits) no_items)) no_members)) (object (member (codes "changes") (object (member uri (edit_list_value edits) no_members)) no_members)))
        ≡ Some (uri, version)
    go true is = ap (option_map pair) (integer_back version)
    go false is = absurd (cc)

abbrev NamesFor : Ask → List ℕ → ℤ → Data → Type 0
NamesFor ask uri version answer = (uri_and_version_in_answer ask answer ≡ Some (uri, version)) ⊎ ((edits_in_answer uri ask answer ≡ []) ⊎ IsFormatting ask)

module _ (requested : List SentAsk) (k : ℕ) (uri : List ℕ) (sent : List (List ℕ)) where
  answer_names : (ask : Ask) (of : SentRequestAsksForEdits requested k uri ask) (message : Data) → SendsMessage message sent → option_and_then request_number_from_id (get (codes "id") message) ≡ Some k → NamesFor ask uri of.sent.version message → All (ContentMentionsAskedDocument requested) sent
  answer_names ask of message sends numbered names =
      sent_one requested message sent sends
      (λ n is. (
        of.sent,
        subst (λ x. sent_ask_with_number requested x ≡ Some of.sent) (same_Some k n (sym numbered ∙ is)) of.is,
        subst (λ u. NamesFor of.sent.ask u of.sent.version message) (sym of.about) (subst (λ x. NamesFor x uri of.sent.version message) (sym of.same_ask) names),
      ))

  refusal_names : (ask : Ask) (of : SentRequestAsksForEdits requested k uri ask) (code : ℤ) (why : List ℕ) (message : Data) → SendsMessage message sent → message ≡ error_response_message (number (unsigned k)) code why → All (ContentMentionsAskedDocument requested) sent
  refusal_names ask of code why message sends is = answer_names ask of (error_response_message (number (unsigned k)) code why) (subst (λ m. SendsMessage m sent) is sends) refl (inr (inl refl))

  rename_names : (position : Position) (name : List ℕ) (of : SentRequestAsksForEdits requested k uri (rename position name)) (client : ClientFeatures) (unit : Unit) (text : List ℕ) → client.accepts_document_changes ≡ true
      → AreContentsOfReply (rename_reply unit (record { id = number (unsigned k); client = client; at = record { uri = uri; position = position }; version = of.sent.version; new = name }) text) sent → All (ContentMentionsAskedDocument requested) sent
  rename_names position name of client unit text takes (message, how, sends) = go how
    where
      request : VersionedRenameRequest
      request = record { id = number (unsigned k); client = client; at = record { uri = uri; position = position }; version = of.sent.version; new = name }

      go : AnswersRenameRequest unit request text message → All (ContentMentionsAskedDocument requested) sent
      go (inl (edits, found, is)) =
          answer_names (rename position name) of (result_message (number (unsigned k)) (workspace_edit_value client uri of.sent.version edits)) (subst (λ m. SendsMessage m sent) is sends) refl (inl (edit_names client uri of.sent.version edits takes))
      go (inr (inl (refusal, why, is))) = refusal_names (rename position name) of (negative_of 32803) (refusal_text refusal) message sends is
      go (inr (inr (unfit, is))) = refusal_names (rename position name) of (negative_of 32803) (codes "ill-typed") message sends is

  inline_names : (how : InliningKind) (position : Position) (of : SentRequestAsksForEdits requested k uri (inlining_at how position)) (client : ClientFeatures) (unit : Unit) (text : List ℕ) → client.accepts_document_changes ≡ true
      → AreContentsOfReply (actions_reply unit (actions_requested_at client (number (unsigned k)) uri position of.sent.version) text) sent → All (ContentMentionsAskedDocument requested) sent
  inline_names how position of client unit text takes (message, (value, listed, is), sends) = go listed
    where
      request : VersionedActionsRequest
      request = actions_requested_at client (number (unsigned k)) uri position of.sent.version

      names_edit : (edits : List Edit) → uri_and_version_in_edit (workspace_edit_value client uri of.sent.version edits) ≡ Some (uri, of.sent.version)
      names_edit edits = edit_names client uri of.sent.version edits takes

      offered : (how : InliningKind) (here everywhere : Option (Vec Edit Global)) → NamesFor (inlining_at how position) uri of.sent.version (result_message (number (unsigned k)) (actions_array request here everywhere))
      offered OneUse (Some edits) everywhere = inl (names_edit edits.items)
      offered OneUse None (Some other) = inr (inl refl)
      offered OneUse None None = inr (inl refl)
      offered Everywhere (Some other) (Some edits) = inl (names_edit edits.items)
      offered Everywhere None (Some edits) = inl (names_edit edits.items)
      offered Everywhere (Some other) None = inr (inl refl)
      offered Everywhere None None = inr (inl refl)

      with_value : (v : Data) → value ≡ v → NamesFor (inlining_at how position) uri of.sent.version (result_message (number (unsigned k)) v) → All (ContentMentionsAskedDocument requested) sent
      with_value v same names = answer_names (inlining_at how position) of (result_message (number (unsigned k)) v) (subst (λ m. SendsMessage m sent) (is ∙ ap (result_message (number (unsigned k))) same) sends) refl names

      go : ListsActions unit request text value → All (ContentMentionsAskedDocument requested) sent
      go (inl h) = with_value (actions_array request h.here h.everywhere) h.listed (offered how h.here h.everywhere)
      go (inr (why, none)) = with_value (array no_items) none (inr (inl (none_read_back how position uri (number (unsigned k)))))

  layout_names : (indent : Indent) (of : SentRequestAsksForEdits requested k uri (format indent)) (unit : Unit) (text : List ℕ) → AreContentsOfReply (formatting_reply unit (number (unsigned k)) (clamped_indent indent) text) sent → All (ContentMentionsAskedDocument requested) sent
  layout_names indent of unit text (message, how, sends) = go how
    where
      go : AnswersFormattingRequest unit (number (unsigned k)) (clamped_indent indent) text message → All (ContentMentionsAskedDocument requested) sent
      go (inl (edits, laid, is)) = answer_names (format indent) of (result_message (number (unsigned k)) (edit_list_value edits)) (subst (λ m. SendsMessage m sent) is sends) refl (inr (inr tt))
      go (inr (inl (long, is))) = refusal_names (format indent) of (negative_of 32803) (refusal_text TooLong) message sends is
      go (inr (inr (unfit, is))) = refusal_names (format indent) of (negative_of 32803) (codes "ill-typed") message sends is

  -- `ContentMentionsAskedDocument` holds of the answer of a running session to a request about a document in step.
  request_names : (ask : Ask) (of : SentRequestAsksForEdits requested k uri ask) (params : Data) (before : ServerState) (text : List ℕ) → RunsWithModelEditor before → document_at before.held uri ≡ Some (InStep of.sent.version text) → request_by_method (method_of_ask ask) params ≡ Ok (client_request_for_ask uri ask)
      → AreContentsOfReply (react_to_allowed_request before (number (unsigned k)) (method_of_ask ask) params).reply sent → All (ContentMentionsAskedDocument requested) sent
  request_names (rename position name) of params before text running holds call saying =
      let id : Data = number (unsigned k) in
      let say : ℤ → List ℕ → Reply = λ version. rename_reply before.held.unit (record { id = id; client = before.client; at = record { uri = uri; position = position }; version = version; new = name }) in
      let so : react_to_allowed_request before id (method_of_ask (rename position name)) params ≡ react_to_document_request before id (document_at before.held uri) say = ap (react_to_parsed_request before id) call in
      rename_names position name of before.client before.held.unit text running.1 (subst (λ (x : Reaction). AreContentsOfReply x.reply sent) (so ∙ ap (λ o. react_to_document_request before id o say) holds) saying)
  request_names (inline_here position) of params before text running holds call saying =
      let id : Data = number (unsigned k) in
      let say : ℤ → List ℕ → Reply = λ version. actions_reply before.held.unit (actions_requested_at before.client (number (unsigned k)) uri position version) in
      let so : react_to_allowed_request before id (method_of_ask (inline_here position)) params ≡ react_to_document_request before id (document_at before.held uri) say = ap (react_to_parsed_request before id) call in
      inline_names OneUse position of before.client before.held.unit text running.1 (subst (λ (x : Reaction). AreContentsOfReply x.reply sent) (so ∙ ap (λ o. react_to_document_request before id o say) holds) saying)
  request_names (inline_all position) of params before text running holds call saying =
      let id : Data = number (unsigned k) in
      let say : ℤ → List ℕ → Reply = λ version. actions_reply before.held.unit (actions_requested_at before.client (number (unsigned k)) uri position version) in
      let so : react_to_allowed_request before id (method_of_ask (inline_all position)) params ≡ react_to_document_request before id (document_at before.held uri) say = ap (react_to_parsed_request before id) call in
      inline_names Everywhere position of before.client before.held.unit text running.1 (subst (λ (x : Reaction). AreContentsOfReply x.reply sent) (so ∙ ap (λ o. react_to_document_request before id o say) holds) saying)
  request_names (format indent) of params before text running holds call saying =
      let id : Data = number (unsigned k) in
      let say : ℤ → List ℕ → Reply = λ version. formatting_reply before.held.unit id (clamped_indent indent) in
      let so : react_to_allowed_request before id (method_of_ask (format indent)) params ≡ react_to_document_request before id (document_at before.held uri) say = ap (react_to_parsed_request before id) call in
      layout_names indent of before.held.unit text (subst (λ (x : Reaction). AreContentsOfReply x.reply sent) (so ∙ ap (λ o. react_to_document_request before id o say) holds) saying)

-- `ContentMentionsAskedDocument` holds of the replies to each message.
content_names : (requested : List SentAsk) (m : MessageToServer) (before after : ServerState) (content : List ℕ) (sent : List (List ℕ)) → RunsWithModelEditor before → IsMessageToServer requested m content → Answers before content sent after → AsksHeld requested before.held (m ∷ []) → All (ContentMentionsAskedDocument requested) sent
content_names requested (notifies note) before after content sent running is h meets =
    let going : AnswersInActivePhase before content sent after = subst (λ phase. AnswersInPhase phase before content sent after) running.0 h in
    let answer = reacts_so before after content sent is.json going is.reads in
    let so : react_to_message before (meaning_of_message is.json) ≡ apply_notification before (notification_for_event note) =
    ap (react_to_message before) is.means ∙ ap (λ phase. react_to_notification phase before is.method is.params) running.0 ∙ ap (apply_notification before) is.reported in
    note_names requested note before sent (subst (λ (x : Reaction). AreContentsOfReply x.reply sent) so answer.1)
content_names requested (requests k uri ask) before after content sent running (is, of) h (meets, none) =
    let answer = request_reaction (number (unsigned k)) uri ask before after content sent running.0 is h in
    let same : meets.sent ≡ of.sent = same_Some meets.sent of.sent (sym meets.is ∙ of.is) in
    let holds : document_at before.held uri ≡ Some (InStep of.sent.version meets.text) = subst (λ (a : SentAsk). document_at before.held uri ≡ Some (InStep a.version meets.text)) same meets.holds in
    request_names requested k uri sent ask of is.params before meets.text running holds is.calls answer.1

-- ---- each event

record Known (w : Connection) : Type 0 where
  pub reached : IsReachable w.model
  pub tied : QueuesMatch w
  pub running : RunsWithModelEditor w.wire.session
  pub asks : AsksHeld w.model.editor.requested w.model.held w.model.to_server
  pub named : All (ContentMentionsAskedDocument w.model.editor.requested) w.wire.to_editor

abbrev AsksOf : ClientAndServer → Type 0
AsksOf w = AsksHeld w.editor.requested w.held w.to_server

serve_known : (old new : Connection) (q : List MessageToServer) (c : List (List ℕ)) → old.model.to_server ≡ q → AreMessagesToServer old.model.editor.requested q c → ServerTakesFirstMessage old.model q new.model → SessionTakesFirstContent c old.wire new.wire → Known old → QueuesMatch new → IsReachable new.model → Known new
serve_known old new [] [] waits says_all happens moves k tied reached =
    record {
      reached = reached;
      tied = tied;
      running = subst RunsWithModelEditor (sym (ap (λ (x : Wire). x.session) moves)) k.running;
      asks = subst AsksOf (sym happens) k.asks;
      named = subst (λ (x : ClientAndServer). All (ContentMentionsAskedDocument x.editor.requested) new.wire.to_editor) (sym happens) (subst (λ (x : Wire). All (ContentMentionsAskedDocument old.model.editor.requested) x.to_editor) (sym moves) k.named);
    }
serve_known old new (m ∷ rest) (content ∷ contents) waits (says_this, others) (said, made, replies, is_new) (after, sent, answer, wire_is) k tied reached =
    let r : List SentAsk = old.model.editor.requested in
    let before : ServerState = old.wire.session in
    let see = sees_first r old.model.held m rest (subst (AsksHeld r old.model.held) waits k.asks) in
    let meets : AsksHeld r before.held (m ∷ []) = subst (λ (held : OpenDocuments). AsksHeld r held (m ∷ [])) k.tied.documents see.0 in
    let names : All (ContentMentionsAskedDocument r) sent = content_names r m before after content sent k.running says_this answer meets in
    record {
      reached = reached;
      tied = tied;
      running = subst RunsWithModelEditor (sym (ap (λ (x : Wire). x.session) wire_is)) (runs_on r m before after sent k.running (served r m before after content sent k.running says_this answer));
      asks = subst AsksOf (sym is_new) see.1;
      named = subst (λ (x : ClientAndServer). All (ContentMentionsAskedDocument x.editor.requested) new.wire.to_editor) (sym is_new)
          (subst (λ (x : Wire). All (ContentMentionsAskedDocument r) x.to_editor) (sym wire_is) (All-append (ContentMentionsAskedDocument r) old.wire.to_editor sent k.named names));
    }
serve_known old new [] (content ∷ contents) waits says_all happens moves k tied reached = absurd says_all
serve_known old new (m ∷ rest) [] waits says_all happens moves k tied reached = absurd says_all

-- Taking a message changes neither the editor's requests nor the messages that wait for the server.
take_keeps : (w : ClientAndServer) (queue : List MessageToEditor) (contents : List (List ℕ)) → AsksOf w → All (ContentMentionsAskedDocument w.editor.requested) contents → AsksOf (state_after_editor_takes_message w queue) × All (ContentMentionsAskedDocument (state_after_editor_takes_message w queue).editor.requested) contents
take_keeps w [] contents asked named = (asked, named)
take_keeps w (publishes uri version empty ∷ rest) contents asked named = (asked, named)
take_keeps w (answers k [] ∷ rest) contents asked named = (asked, named)
take_keeps w (answers k (edit ∷ edits) ∷ rest) contents asked named = (asked, named)

gets_names : (P : List ℕ → Type 0) (c : List (List ℕ)) (old new : Wire) → old.to_editor ≡ c → EditorTakesFirstContent c old new → All P old.to_editor → All P new.to_editor
gets_names P [] old new waits is all = subst (λ (x : Wire). All P x.to_editor) (sym is) all
gets_names P (content ∷ rest) old new waits is all = subst (λ (x : Wire). All P x.to_editor) (sym is) (All-tail P content rest (subst (All P) waits all))

gets_session : (c : List (List ℕ)) (old new : Wire) → EditorTakesFirstContent c old new → new.session ≡ old.session
gets_session [] old new is = ap (λ (x : Wire). x.session) is
gets_session (content ∷ rest) old new is = ap (λ (x : Wire). x.session) is

step_known : (old : Connection) (event : Event) (new : Connection) → Known old → ConnectionSteps old event new → Known new
step_known old (editor_acts act) new k step =
    let keeps : Keeps old.model old.wire.to_editor (act_result old.model.editor act) = act_keeps old.model old.wire.to_editor (reached_mirrors old.model k.reached) k.asks k.named act in
    record {
      reached = reached_more old.model (editor_acts act) new.model k.reached step.happens;
      tied = step.tied;
      running = subst RunsWithModelEditor (sym (ap (λ (x : Wire). x.session) step.moves.1)) k.running;
      asks = subst AsksOf (sym step.happens) keeps.0;
      named = subst (λ (x : ClientAndServer). All (ContentMentionsAskedDocument x.editor.requested) new.wire.to_editor) (sym step.happens)
          (subst (λ (x : Wire). All (ContentMentionsAskedDocument (act_result old.model.editor act).editor.requested) x.to_editor) (sym step.moves.1) keeps.1);
    }
step_known old serve new k step =
    serve_known old new old.model.to_server old.wire.to_server refl k.tied.says step.happens step.moves k step.tied (reached_more old.model serve new.model k.reached step.happens)
step_known old take_message new k step =
    let keeps = take_keeps old.model old.model.to_editor new.wire.to_editor k.asks (gets_names (ContentMentionsAskedDocument old.model.editor.requested) old.wire.to_editor old.wire new.wire refl step.moves k.named) in
    record {
      reached = reached_more old.model take_message new.model k.reached step.happens;
      tied = step.tied;
      running = subst RunsWithModelEditor (sym (gets_session old.wire.to_editor old.wire new.wire step.moves)) k.running;
      asks = subst AsksOf (sym step.happens) keeps.0;
      named = subst (λ (x : ClientAndServer). All (ContentMentionsAskedDocument x.editor.requested) new.wire.to_editor) (sym step.happens) keeps.1;
    }

course_known : (begin : Connection) (events : List Event) (now : Connection) → Known begin → IsConnectionCourse begin events now → Known now
course_known begin [] now k is = subst Known (sym is) k
course_known begin (e ∷ events) now k (between, step, rest) = course_known between events now (step_known begin e between k step) rest

unit_back : (unit : Unit) → unit ≡ unit_for_client (client_features_for_unit unit)
unit_back Utf16 = refl
unit_back Utf8 = refl

begin_known : (unit : Unit) (begin : Connection) → IsInitialConnection unit begin → Known begin
begin_known unit begin b = subst Known (λ i. record { model = sym b.model i; wire = sym b.wire i }) first
  where
    this : Connection
    this = record {
      model = initial_client_and_server unit;
      wire = record { session = state_after_initialize (client_features_for_unit unit); taken = b.content ∷ []; to_server = []; got = b.replies; to_editor = [] };
    }

    first : Known this
    first = record {
      reached = reached_start unit;
      tied = record { says = tt; means = refl; documents = ap (λ u. (initial_client_and_server u).held) (unit_back unit) };
      running = (refl, refl, refl);
      asks = tt;
      named = All-nil (ContentMentionsAskedDocument []);
    }

pub answers_mention_versions : AnswersMentionVersions
answers_mention_versions unit begin events now begins_so course = (course_known begin events now (begin_known unit begin begins_so) course).named

-- ---- a client that goes by the version

pub versions_suffice_to_apply_answers : VersionsSufficeToApplyAnswers
versions_suffice_to_apply_answers e k a edits numbered not_reopened = go (editor_document_with_uri e a.uri) refl ∙ sym (ap (option_and_then then_asked) numbered)
  where
    makes : (uri : List ℕ) → OpenDocument → List ℕ → Option ActResult
    makes uri d text = Some (result_of_changing_text e uri d text (whole_text_change text ∷ []) (record { uri = uri; before = d.text; after = text } ∷ []))

    then_open : (uri : List ℕ) → OpenDocument → Option ActResult
    then_open uri d = option_and_then (makes uri d) (text_after_edits e.unit d.text edits)

    then_asked : SentAsk → Option ActResult
    then_asked x = option_and_then (then_open x.uri) (option_and_then (document_if_unchanged_since_ask x) (editor_document_with_uri e x.uri))

    of_version : (d : OpenDocument) (b : Bool) → option_and_then (makes a.uri d) (cond b (text_after_edits e.unit d.text edits) None) ≡ option_and_then (then_open a.uri) (cond b (Some d) None)
    of_version d true = refl
    of_version d false = refl

    go : (o : Option OpenDocument) → editor_document_with_uri e a.uri ≡ o → option_and_then (λ d. option_and_then (makes a.uri d) (cond (is_same_version d.version a.version) (text_after_edits e.unit d.text edits) None)) o ≡ option_and_then (then_open a.uri) (option_and_then (document_if_unchanged_since_ask a) o)
    go None is = refl
    go (Some d) is =
        of_version d (is_same_version d.version a.version)
        ∙ ap (λ b. option_and_then (then_open a.uri) (cond (b && is_same_version d.version a.version) (Some d) None)) (sym (eq-eqb d.opening a.opening (not_reopened d is)))
