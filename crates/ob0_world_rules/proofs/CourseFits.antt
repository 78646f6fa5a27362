-- Proves that a list of events can't be without a course if its asks always have answers. An act of
-- the editor has a result, because `act_result` is a function. The server can always publish: the
-- list is empty exactly if the text is a well-typed module. It can always answer an ask, by the
-- condition.
use Rattle.std.proofs.Common.{◌≡◌, Bool, true, false, cond, ℕ, List, [], ◌∷◌, ◌++◌, refl, sym, subst}
use Rattle.std.specs.Prelude.{⊤, All, Option, Some, None, is_some, unwrap_or, option_and_then}
use Rattle.std.proofs.lemmas.List.Elements.{All-nil, All-push, All-head, All-tail, All-append}
use Rattle.ob0_text.specs.declared.position_types.Unit.{Unit}
use Rattle.ob0_text.specs.OpenDocuments.{OpenDocuments, Document, InStep, OutOfStep, DocumentEvent, Opened, Changed, Lost, Closed, document_at, documents_after_event}
use Rattle.ob0_world_rules.specs.TextEdits.{Replacement, text_after_changes}
use Rattle.ob0_world_rules.specs.Asks.{Ask}
use Rattle.ob0_world_rules.specs.Answers.{IsAnswerForDocument, NoDiagnosticsExactlyIfWellTyped}
use Rattle.ob0_world_rules.specs.ClientAndServer.{OpenDocument, Editor, editor_document_with_uri, MessageToServer, notifies, requests, MessageToEditor, publishes, answers, PublicationWithText, ClientAndServer, initial_client_and_server, documents_after_message}
use Rattle.ob0_world_rules.specs.EditorActs.{EditorAct, open_document, change_document, close_document, request_edits, apply, discard, ActResult, result_without_messages, result_of_opening_document, result_of_changing_text, result_of_closing_document, result_of_sending_ask, edits_of_answer_to_request, editor_without_answer, result_of_applying_answer, act_result}
use Rattle.ob0_world_rules.specs.ServerReplies.{ServerSendsDiagnostics, ServerRepliesToMessage}
use Rattle.ob0_world_rules.specs.Events.{Event, editor_acts, serve, take_message, state_after_act, state_after_editor_takes_message, ServerTakesFirstMessage, EventLeadsTo, IsCourse}
use Rattle.ob0_world_rules.specs.Laws.{AlwaysHasAnswer, AlwaysHasAnswerIfAsk, CourseExistsIfAsksHaveAnswers}
use Rattle.ob0_world_rules.proofs.PerformsAct.{applied_so}

-- ---- asks have answers

-- holds if the message isn't a request, or is a request that has answers
abbrev CanBeReplied : MessageToServer → Type 0
CanBeReplied (notifies note) = ⊤
CanBeReplied (requests k uri ask) = AlwaysHasAnswer ask

none_sent : All CanBeReplied []
none_sent = All-nil CanBeReplied

note_sent : (note : DocumentEvent) → All CanBeReplied (notifies note ∷ [])
note_sent note = All-push CanBeReplied [] (notifies note) none_sent tt

-- Each message that an act sends can be replied to if the act's ask has answers.
act_sends : (e : Editor) (act : EditorAct) → AlwaysHasAnswerIfAsk (editor_acts act) → All CanBeReplied (act_result e act).sent
act_sends e (open_document uri text) h = go (is_some (editor_document_with_uri e uri))
  where
    go : (b : Bool) → All CanBeReplied (cond b (result_without_messages e) (result_of_opening_document e uri text)).sent
    go true = none_sent
    go false = note_sent _
act_sends e (change_document uri how) h = go (editor_document_with_uri e uri)
  where
    of_text : (d : OpenDocument) (o : Option (List ℕ)) → All CanBeReplied (unwrap_or (option_and_then (λ text. Some (result_of_changing_text e uri d text how [])) o) (result_without_messages e)).sent
    of_text d None = none_sent
    of_text d (Some text) = note_sent _

    go : (o : Option OpenDocument) → All CanBeReplied (unwrap_or (option_and_then (λ d. option_and_then (λ text. Some (result_of_changing_text e uri d text how [])) (text_after_changes e.unit (Some d.text) how)) o) (result_without_messages e)).sent
    go None = none_sent
    go (Some d) = of_text d (text_after_changes e.unit (Some d.text) how)
act_sends e (close_document uri) h = go (is_some (editor_document_with_uri e uri))
  where
    go : (b : Bool) → All CanBeReplied (cond b (result_of_closing_document e uri) (result_without_messages e)).sent
    go true = note_sent _
    go false = none_sent
act_sends e (request_edits uri ask) h = go (editor_document_with_uri e uri)
  where
    go : (o : Option OpenDocument) → All CanBeReplied (unwrap_or (option_and_then (λ d. Some (result_of_sending_ask e uri ask d)) o) (result_without_messages e)).sent
    go None = none_sent
    go (Some d) = All-push CanBeReplied [] _ none_sent h
act_sends e (apply k) h =
    go (option_and_then (result_of_applying_answer (editor_without_answer e k) k) (edits_of_answer_to_request k e.answers))
    (λ done is. subst (λ (x : ActResult). All CanBeReplied x.sent) (sym (applied_so e k done is).is) (note_sent _))
  where
    go : (o : Option ActResult) → ((done : ActResult) → o ≡ Some done → All CanBeReplied done.sent) → All CanBeReplied (unwrap_or o (result_without_messages (editor_without_answer e k))).sent
    go None each = none_sent
    go (Some done) each = each done refl
act_sends e (discard k) h = none_sent

-- ---- the server's replies

publish_fits : (uri : List ℕ) (o : Option Document) → ((said : List MessageToEditor) (made : List PublicationWithText) → ServerSendsDiagnostics uri o said made → ⊥) → ⊥
publish_fits uri (Some (InStep version text)) none =
    replies false (λ no. absurd (differ no), λ fits. absurd (replies true (λ yes'. fits, λ f. refl)))
  where
    differ : false ≡ true → ⊥
    differ no' = cc

    replies : (empty : Bool) → NoDiagnosticsExactlyIfWellTyped text empty → ⊥
    replies empty right = none (publishes uri (Some version) empty ∷ []) (record { uri = uri; version = version; text = text; no_diagnostics = empty } ∷ []) (empty, right, refl, refl)
publish_fits uri (Some OutOfStep) none = none [] [] (refl, refl)
publish_fits uri None none = none [] [] (refl, refl)

answer_fits : (unit : Unit) (o : Option Document) (ask : Ask) → AlwaysHasAnswer ask → ((edits : List Replacement) → IsAnswerForDocument unit o ask edits → ⊥) → ⊥
answer_fits unit (Some (InStep version text)) ask h none = h unit text none
answer_fits unit (Some OutOfStep) ask h none = none [] refl
answer_fits unit None ask h none = none [] refl

reply_fits : (held : OpenDocuments) (m : MessageToServer) → CanBeReplied m → ((said : List MessageToEditor) (made : List PublicationWithText) → ServerRepliesToMessage held m said made → ⊥) → ⊥
reply_fits held (notifies (Opened uri version text)) h none = publish_fits uri (document_at (documents_after_event held (Opened uri version text)) uri) none
reply_fits held (notifies (Changed uri version how)) h none = publish_fits uri (document_at (documents_after_event held (Changed uri version how)) uri) none
reply_fits held (notifies (Lost uri)) h none = none [] [] (refl, refl)
reply_fits held (notifies (Closed uri)) h none = none (cond (is_some (document_at held uri)) (publishes uri None true ∷ []) []) [] (refl, refl)
reply_fits held (requests k uri ask) h none =
    answer_fits held.unit (document_at held uri) ask h (λ edits answer. none (answers k edits ∷ []) [] (edits, answer, refl, refl))

-- ---- events

serve_fits : (w : ClientAndServer) (queue : List MessageToServer) → w.to_server ≡ queue → All CanBeReplied w.to_server → ((new : ClientAndServer) → ServerTakesFirstMessage w queue new → All CanBeReplied new.to_server → ⊥) → ⊥
serve_fits w [] is waiting none = none w refl waiting
serve_fits w (m ∷ rest) is waiting none =
    let all : All CanBeReplied (m ∷ rest) = subst (All CanBeReplied) is waiting in
    reply_fits w.held m (All-head CanBeReplied m rest all)
    (λ said made replies. none
    (record w { to_server = rest; held = documents_after_message w.held m; to_editor = w.to_editor ++ said; made = w.made ++ made })
    (said, made, replies, refl) (All-tail CanBeReplied m rest all))

taken : (w : ClientAndServer) (queue : List MessageToEditor) → All CanBeReplied w.to_server → All CanBeReplied (state_after_editor_takes_message w queue).to_server
taken w [] waiting = waiting
taken w (m ∷ rest) waiting = waiting

event_fits : (e : Event) (w : ClientAndServer) → AlwaysHasAnswerIfAsk e → All CanBeReplied w.to_server → ((new : ClientAndServer) → EventLeadsTo w e new → All CanBeReplied new.to_server → ⊥) → ⊥
event_fits (editor_acts act) w h waiting none =
    none (state_after_act w (act_result w.editor act)) refl (All-append CanBeReplied w.to_server (act_result w.editor act).sent waiting (act_sends w.editor act h))
event_fits serve w h waiting none = serve_fits w w.to_server refl waiting none
event_fits take_message w h waiting none = none (state_after_editor_takes_message w w.to_editor) refl (taken w w.to_editor waiting)

fits : (events : List Event) (w : ClientAndServer) → All AlwaysHasAnswerIfAsk events → All CanBeReplied w.to_server → ((end : ClientAndServer) → IsCourse w events end → ⊥) → ⊥
fits [] w all waiting none = none w refl
fits (e ∷ events) w all waiting none =
    event_fits e w (All-head AlwaysHasAnswerIfAsk e events all) waiting
    (λ new happens still. fits events new (All-tail AlwaysHasAnswerIfAsk e events all) still (λ end course. none end (new, happens, course)))

pub course_exists_if_asks_have_answers : CourseExistsIfAsksHaveAnswers
course_exists_if_asks_have_answers unit events all none = fits events (initial_client_and_server unit) all none_sent none
