-- Proves that the editor's acts, as the code makes them, are the acts of the model.
use Rattle.std.proofs.Common.{◌≡◌, ◌<◌, ◌∙◌, ℕ, Bool, true, false, cond, List, [], ◌∷◌, ◌++◌, length, slice_index_or, Option, Some, None, Result, Ok, Err, refl, sym, ap, subst, arith}
use Rattle.std.specs.Prelude.{All, Vec, map, IfOk, OnErr, OnOk, is_some, unwrap_or, option_and_then}
use Rattle.std.specs.Option.{option_to_list}
use Rattle.std.specs.declared.alloc.Global.{Global}
use Rattle.std.proofs.lemmas.List.{append-nil, map-append}
use Rattle.std.proofs.lemmas.List.Elements.{All-head, All-push, All-tail}
use Rattle.ob0_text.specs.OpenDocuments.{TextChange}
use Rattle.ob0_session_server.specs.Answers.{ServerState}
use Rattle.ob0_world_editor.specs.ModelValues.{model_applied_edit_of}
use Rattle.ob0_world_editor.specs.MessagesToServer.{message_to_server_in_content, IsMessageToServer}
use Rattle.ob0_world_editor.specs.EditorCalls.{IsSentContent, PerformsAct, SendsAndAppliesNothing, IsApplyOutcome}
use Rattle.ob0_world_editor.specs.MessagesToEditor.{message_to_editor_in_content}
use Rattle.ob0_world_editor.specs.declared.applied_edits.Applied as applied
use Rattle.ob0_world_editor.specs.declared.applied_edits.ApplyOutcome as applying
use Rattle.ob0_world_editor.proofs.Hearing.{says_heard}
use Rattle.ob0_world_rules.specs.TextEdits.{Replacement, text_after_changes}
use Rattle.ob0_world_rules.specs.Asks.{Ask}
use Rattle.ob0_world_rules.specs.ClientAndServer.{OpenDocument, SentAsk, Editor, editor_document_with_uri, MessageToServer, MessageToEditor, publishes, answers, ClientAndServer}
use Rattle.ob0_world_rules.specs.EditorActs.{EditorAct, open_document, change_document, close_document, request_edits, apply, discard, ActResult, result_without_messages, result_of_opening_document, result_of_changing_text, result_of_closing_document, result_of_sending_ask, edits_of_answer_to_request, editor_without_answer, act_result, editor_after_message}
use Rattle.ob0_world_rules.specs.Events.{editor_acts, take_message, state_after_act, state_after_editor_takes_message, EventLeadsTo}
use Rattle.ob0_world_rules.proofs.PerformsAct.{of_each}
use Rattle.ob0_world.specs.declared.events.Seen as seen
use Rattle.ob0_world.specs.declared.play_results.Made as made
use Rattle.ob0_world.specs.EventReport.{EventReport, nothing, applies, drops, report_if_nonempty, report_on_sending, report_on_act, report_on_take, model_report_of, EventLeadsToWithReport}
use Rattle.ob0_world.specs.EventReport as seen_as
use Rattle.ob0_world.specs.Queues.{Contents, bytes_of_contents, messages_to_server_in_contents, messages_to_editor_in_contents, MeansMessageToServer, MeansMessageToEditor, ConnectionInvariant, model_from_fields, wire_from_fields, AppendsContentToQueue, MovesFirstContent}
use Rattle.ob0_world.specs.Worlds.{AppendsAtMostOneContent}
use Rattle.ob0_world.proofs.Waiting.{all_heard_still, all_understood_still, heard_still, understood_same, said_push, said_first}

-- ---- the asks of an editor only grow

abbrev pub Grows : Editor → Editor → Type 0
Grows e new = (more : List SentAsk) × (new.requested ≡ e.requested ++ more)

pub act_grows : (e : Editor) (act : EditorAct) → Grows e (act_result e act).editor
act_grows e = of_each e (λ done. Grows e done.editor) (record {
  still = ([], sym (append-nil e.requested));
  opened = λ uri text none. ([], sym (append-nil e.requested));
  changed = λ uri d how text at made. ([], sym (append-nil e.requested));
  closed = λ uri d at. ([], sym (append-nil e.requested));
  asked = λ uri ask d at. (_, refl);
  made = λ k edits a d text held numbered same makes. ([], sym (append-nil e.requested));
  dropped = λ k. ([], sym (append-nil e.requested));
})

pub grown : (e new : Editor) (done : ActResult) → Grows e done.editor → new ≡ done.editor → Grows e new
grown e new done (more, grows) is = (more, ap (λ (x : Editor). x.requested) is ∙ grows)

-- ---- waiting contents are still messages

pub grown_sound : (e new : Editor) (q r : Contents) (s : ServerState) → Grows e new → ConnectionInvariant e.requested q r s → ConnectionInvariant new.requested q r s
grown_sound e new q r s (more, is) sound =
    subst (λ requested. ConnectionInvariant requested q r s) (sym is)
    (record { to_server_are_messages = all_heard_still e.requested more q sound.to_server_are_messages; to_editor_are_messages = all_understood_still e.requested more r sound.to_editor_are_messages; running = sound.running })

pub same_sound : (e new : Editor) (q r : Contents) (s : ServerState) → new.requested ≡ e.requested → ConnectionInvariant e.requested q r s → ConnectionInvariant new.requested q r s
same_sound e new q r s is sound = subst (λ requested. ConnectionInvariant requested q r s) (sym is) sound

pushed_sound : (requested : List SentAsk) (q r : Contents) (s : ServerState) (c : Vec ℕ Global) (m : MessageToServer) → IsMessageToServer requested m c.items → ConnectionInvariant requested q r s → ConnectionInvariant requested (q ++ c ∷ []) r s
pushed_sound requested q r s c m says sound =
    record { to_server_are_messages = All-push (MeansMessageToServer requested) q c sound.to_server_are_messages (m, says); to_editor_are_messages = sound.to_editor_are_messages; running = sound.running }

-- After an act the waiting contents are still messages, including the content of that act.
pub acted_sound : (e new : Editor) (done : ActResult) (content : Option (Vec ℕ Global)) (q q' r : Contents) (s : ServerState) → Grows e done.editor → PerformsAct done content new → q' ≡ q ++ option_to_list content → ConnectionInvariant e.requested q r s → ConnectionInvariant new.requested q' r s
acted_sound e new done content q q' r s grows acts is sound =
    let still : ConnectionInvariant new.requested q r s = grown_sound e new q r s (grown e new done grows acts.0) sound in
    subst (λ x. ConnectionInvariant new.requested x r s) (sym is) (go done.sent content acts.1 still)
  where
    go : (sent : List MessageToServer) (content : Option (Vec ℕ Global)) → IsSentContent new.requested sent content → ConnectionInvariant new.requested q r s → ConnectionInvariant new.requested (q ++ option_to_list content) r s
    go [] None says still = subst (λ x. ConnectionInvariant new.requested x r s) (sym (append-nil q)) still
    go [] (Some c) says still = absurd says
    go (m ∷ more) None says still = absurd says
    go (m ∷ more) (Some c) says still = pushed_sound new.requested q r s c m says.0 still

-- The queue to the session has the messages that it had and the one that the act sent.
heard_acted : (requested : List SentAsk) (sent : List MessageToServer) (content : Option (Vec ℕ Global)) (q : Contents) → IsSentContent requested sent content → messages_to_server_in_contents requested (q ++ option_to_list content) ≡ messages_to_server_in_contents requested q ++ sent
heard_acted requested [] None q says = ap (messages_to_server_in_contents requested) (append-nil q) ∙ sym (append-nil (messages_to_server_in_contents requested q))
heard_acted requested [] (Some c) q says = absurd says
heard_acted requested (m ∷ more) None q says = absurd says
heard_acted requested (m ∷ more) (Some c) q says =
    said_push (message_to_server_in_content requested) q c m (says_heard requested m c.items says.0) ∙ ap (λ ms. messages_to_server_in_contents requested q ++ m ∷ ms) (sym says.1)

-- After an act of the code, the stored state is the model's state after that act.
pub acted : (e new : Editor) (done : ActResult) (content : Option (Vec ℕ Global)) (q q' r : Contents) (s : ServerState) (ap_list ap_new : List applied.Applied) (md : List made.Made) → Grows e done.editor → PerformsAct done content new → q' ≡ q ++ option_to_list content
    → map model_applied_edit_of ap_new ≡ map model_applied_edit_of ap_list ++ done.applied → ConnectionInvariant e.requested q r s → model_from_fields new q' s r ap_new md ≡ state_after_act (model_from_fields e q s r ap_list md) done
acted e new done content q q' r s ap_list ap_new md grows acts is more sound =
    let (since, grew) = grown e new done grows acts.0 in
    let waits : messages_to_server_in_contents new.requested q' ≡ messages_to_server_in_contents e.requested q ++ done.sent =
    ap (messages_to_server_in_contents new.requested) is ∙ heard_acted new.requested done.sent content q acts.1
    ∙ ap (λ ms. ms ++ done.sent) (ap (λ requested. messages_to_server_in_contents requested q) grew ∙ heard_still e.requested since q sound.to_server_are_messages) in
    (λ i. record (model_from_fields e q s r ap_list md) {
      editor = acts.0 i;
      to_server = waits i;
      to_editor = (ap (λ requested. messages_to_editor_in_contents requested r) grew ∙ understood_same e.requested since r sound.to_editor_are_messages) i;
      applied = more i;
    })

-- ---- an act that applies nothing

-- The content of an act, if there is one, was put at the end of the queue.
pub put : (q q' : Contents) (content : Option (Vec ℕ Global)) (shown : seen.Seen) → AppendsContentToQueue q content shown q' → q' ≡ q ++ option_to_list content
put q q' None shown sent = sent.1 ∙ sym (append-nil q)
put q q' (Some c) shown sent = sent.1

seen_sent : (done : ActResult) (requested : List SentAsk) (q q' : Contents) (content : Option (Vec ℕ Global)) (shown : seen.Seen) → IsSentContent requested done.sent content → AppendsContentToQueue q content shown q' → model_report_of shown ≡ report_on_sending done
seen_sent done requested q q' content shown says sent = go done.sent content says sent
  where
    go : (ms : List MessageToServer) (content : Option (Vec ℕ Global)) → IsSentContent requested ms content → AppendsContentToQueue q content shown q' → model_report_of shown ≡ report_if_nonempty ms seen_as.sent seen_as.nothing
    go [] None says sent = sent.0
    go [] (Some c) says sent = absurd says
    go (m ∷ more) None says sent = absurd says
    go (m ∷ more) (Some c) says sent = sent.0

none_applied : (e : Editor) (o : Option ActResult) → ((done : ActResult) → o ≡ Some done → done.applied ≡ []) → (unwrap_or o (result_without_messages e)).applied ≡ []
none_applied e None none = refl
none_applied e (Some done) none = none done refl

pub open_applies : (e : Editor) (uri text : List ℕ) → (act_result e (open_document uri text)).applied ≡ []
open_applies e uri text = go (is_some (editor_document_with_uri e uri))
  where
    go : (b : Bool) → (cond b (result_without_messages e) (result_of_opening_document e uri text)).applied ≡ []
    go true = refl
    go false = refl

pub close_applies : (e : Editor) (uri : List ℕ) → (act_result e (close_document uri)).applied ≡ []
close_applies e uri = go (is_some (editor_document_with_uri e uri))
  where
    go : (b : Bool) → (cond b (result_of_closing_document e uri) (result_without_messages e)).applied ≡ []
    go true = refl
    go false = refl

pub ask_applies : (e : Editor) (uri : List ℕ) (ask : Ask) → (act_result e (request_edits uri ask)).applied ≡ []
ask_applies e uri ask = go (editor_document_with_uri e uri)
  where
    go : (o : Option OpenDocument) → (unwrap_or (option_and_then (λ d. Some (result_of_sending_ask e uri ask d)) o) (result_without_messages e)).applied ≡ []
    go None = refl
    go (Some d) = refl

pub change_applies : (e : Editor) (uri : List ℕ) (how : List TextChange) → (act_result e (change_document uri how)).applied ≡ []
change_applies e uri how = go (editor_document_with_uri e uri)
  where
    of_text : (d : OpenDocument) (o : Option (List ℕ)) → (unwrap_or (option_and_then (λ text. Some (result_of_changing_text e uri d text how [])) o) (result_without_messages e)).applied ≡ []
    of_text d None = refl
    of_text d (Some text) = refl

    go : (o : Option OpenDocument) → (unwrap_or (option_and_then (λ d. option_and_then (λ text. Some (result_of_changing_text e uri d text how [])) (text_after_changes e.unit (Some d.text) how)) o) (result_without_messages e)).applied ≡ []
    go None = refl
    go (Some d) = of_text d (text_after_changes e.unit (Some d.text) how)

pub sent_sound : {X : Type 0} (act : EditorAct) (e new : Editor) (content : Option (Vec ℕ Global)) (q q' r : Contents) (s : ServerState) (result : Result seen.Seen X) → PerformsAct (act_result e act) content new
    → IfOk result (λ shown. AppendsContentToQueue q content shown q') → OnErr result (q' ≡ q) → ConnectionInvariant e.requested q r s → ConnectionInvariant new.requested q' r s
sent_sound act e new content q q' r s (Ok shown) acts sent none sound = acted_sound e new (act_result e act) content q q' r s (act_grows e act) acts (put q q' content shown sent) sound
sent_sound act e new content q q' r s (Err x) acts sent none sound =
    subst (λ x. ConnectionInvariant new.requested x r s) (sym none) (grown_sound e new q r s (grown e new (act_result e act) (act_grows e act) acts.0) sound)

pub sent_shows : {X : Type 0} (act : EditorAct) (old : ClientAndServer) (e new : Editor) (content : Option (Vec ℕ Global)) (q q' r : Contents) (s : ServerState) (ap_list : List applied.Applied) (md : List made.Made) (result : Result seen.Seen X)
    → model_from_fields e q s r ap_list md ≡ old → (act_result e act).applied ≡ [] → report_on_act e act ≡ report_on_sending (act_result e act) → PerformsAct (act_result e act) content new → IfOk result (λ shown. AppendsContentToQueue q content shown q') → ConnectionInvariant e.requested q r s
    → IfOk result (λ shown. EventLeadsToWithReport old (editor_acts act) (model_report_of shown) (model_from_fields new q' s r ap_list md))
sent_shows act old e new content q q' r s ap_list md (Ok shown) was none as_sent acts sent sound =
    subst (λ (w : ClientAndServer). EventLeadsToWithReport w (editor_acts act) (model_report_of shown) (model_from_fields new q' s r ap_list md)) was (
      acted e new (act_result e act) content q q' r s ap_list ap_list md (act_grows e act) acts (put q q' content shown sent) (sym (append-nil (map model_applied_edit_of ap_list)) ∙ ap (λ x. map model_applied_edit_of ap_list ++ x) (sym none)) sound,
      seen_sent (act_result e act) new.requested q q' content shown acts.1 sent ∙ sym as_sent,
    )
sent_shows act old e new content q q' r s ap_list md (Err x) was none as_sent acts sent sound = tt

-- ---- answers

-- An answer that isn't applied sends nothing.
pub silent_acts : (done : ActResult) (new : Editor) → SendsAndAppliesNothing done new → PerformsAct done None new
silent_acts done new (is, nothing_sent, none) = (is, subst (λ ms. IsSentContent new.requested ms None) (sym nothing_sent) tt)

pub silent_shows : (act : EditorAct) (e new : Editor) (q r : Contents) (s : ServerState) (ap_list : List applied.Applied) (md : List made.Made) → SendsAndAppliesNothing (act_result e act) new → ConnectionInvariant e.requested q r s
    → EventLeadsTo (model_from_fields e q s r ap_list md) (editor_acts act) (model_from_fields new q s r ap_list md)
silent_shows act e new q r s ap_list md silent sound =
    acted e new (act_result e act) None q q r s ap_list ap_list md (act_grows e act) (silent_acts (act_result e act) new silent) (sym (append-nil q)) (sym (append-nil (map model_applied_edit_of ap_list)) ∙ ap (λ x. map model_applied_edit_of ap_list ++ x) (sym silent.2)) sound

-- returns the report on an answer that was to be applied
abbrev pub apply_seen : (e new : Editor) (k : ℕ) (outcome : applying.ApplyOutcome) → IsApplyOutcome (act_result e (apply k)) (is_some (edits_of_answer_to_request k e.answers)) outcome new → EventReport
apply_seen e new k applying.TheVariants.NoSuchAnswer comes = nothing
apply_seen e new k applying.TheVariants.Dropped comes = drops k
apply_seen e new k (applying.TheVariants.EditsMade a c) comes = applies k

pub apply_seen_so : (e new : Editor) (k : ℕ) (outcome : applying.ApplyOutcome) (comes : IsApplyOutcome (act_result e (apply k)) (is_some (edits_of_answer_to_request k e.answers)) outcome new) → apply_seen e new k outcome comes ≡ report_on_act e (apply k)
apply_seen_so e new k applying.TheVariants.NoSuchAnswer comes = sym (ap (λ b. cond b (report_if_nonempty (act_result e (apply k)).applied (applies k) (drops k)) nothing) comes.1)
apply_seen_so e new k applying.TheVariants.Dropped comes =
    sym (ap (λ b. cond b (report_if_nonempty (act_result e (apply k)).applied (applies k) (drops k)) nothing) comes.1 ∙ ap (λ xs. report_if_nonempty xs (applies k) (drops k)) comes.0.2)
apply_seen_so e new k (applying.TheVariants.EditsMade a c) comes =
    sym (ap (λ b. cond b (report_if_nonempty (act_result e (apply k)).applied (applies k) (drops k)) nothing) comes.2 ∙ ap (λ xs. report_if_nonempty xs (applies k) (drops k)) comes.1)

pub apply_requested : (e new : Editor) (k : ℕ) (outcome : applying.ApplyOutcome) → IsApplyOutcome (act_result e (apply k)) (is_some (edits_of_answer_to_request k e.answers)) outcome new → new ≡ (act_result e (apply k)).editor
apply_requested e new k applying.TheVariants.NoSuchAnswer comes = comes.0.0
apply_requested e new k applying.TheVariants.Dropped comes = comes.0.0
apply_requested e new k (applying.TheVariants.EditsMade a c) comes = comes.0.0

-- After an answer was applied or dropped, the waiting contents are still messages.
pub applied_sound : (e new : Editor) (k : ℕ) (outcome : applying.ApplyOutcome) (q r : Contents) (s : ServerState) → IsApplyOutcome (act_result e (apply k)) (is_some (edits_of_answer_to_request k e.answers)) outcome new → ConnectionInvariant e.requested q r s → ConnectionInvariant new.requested q r s
applied_sound e new k outcome q r s comes sound = grown_sound e new q r s (grown e new (act_result e (apply k)) (act_grows e (apply k)) (apply_requested e new k outcome comes)) sound

-- The content that tells of an applied edit is a message to the server.
pub made_says : (e new : Editor) (k : ℕ) (a : applied.Applied) (c : Vec ℕ Global) → IsApplyOutcome (act_result e (apply k)) (is_some (edits_of_answer_to_request k e.answers)) (applying.TheVariants.EditsMade a c) new → MeansMessageToServer new.requested c
made_says e new k a c comes = go (act_result e (apply k)).sent comes.0.1
  where
    go : (sent : List MessageToServer) → IsSentContent new.requested sent (Some c) → MeansMessageToServer new.requested c
    go [] says = absurd says
    go (m ∷ more) says = (m, says.0)

pub made_happens : (e new : Editor) (k : ℕ) (a : applied.Applied) (c : Vec ℕ Global) (q q' r : Contents) (s : ServerState) (ap_list ap_new : List applied.Applied) (md : List made.Made) → IsApplyOutcome (act_result e (apply k)) (is_some (edits_of_answer_to_request k e.answers)) (applying.TheVariants.EditsMade a c) new
    → q' ≡ q ++ c ∷ [] → ap_new ≡ ap_list ++ a ∷ [] → ConnectionInvariant e.requested q r s → EventLeadsToWithReport (model_from_fields e q s r ap_list md) (editor_acts (apply k)) (applies k) (model_from_fields new q' s r ap_new md)
made_happens e new k a c q q' r s ap_list ap_new md comes is_q is_ap sound = (
  acted e new (act_result e (apply k)) (Some c) q q' r s ap_list ap_new md (act_grows e (apply k)) comes.0 is_q
      (ap (map model_applied_edit_of) is_ap ∙ map-append model_applied_edit_of ap_list (a ∷ []) ∙ ap (λ x. map model_applied_edit_of ap_list ++ x) (sym comes.1)) sound,
  apply_seen_so e new k (applying.TheVariants.EditsMade a c) comes,
)

pub dropped_happens : (e new : Editor) (k : ℕ) (q r : Contents) (s : ServerState) (ap_list : List applied.Applied) (md : List made.Made) → IsApplyOutcome (act_result e (apply k)) (is_some (edits_of_answer_to_request k e.answers)) applying.TheVariants.Dropped new → ConnectionInvariant e.requested q r s
    → EventLeadsToWithReport (model_from_fields e q s r ap_list md) (editor_acts (apply k)) (drops k) (model_from_fields new q s r ap_list md)
dropped_happens e new k q r s ap_list md comes sound = (silent_shows (apply k) e new q r s ap_list md comes.0 sound, apply_seen_so e new k applying.TheVariants.Dropped comes)

pub not_held_happens : (e new : Editor) (k : ℕ) (q r : Contents) (s : ServerState) (ap_list : List applied.Applied) (md : List made.Made) → IsApplyOutcome (act_result e (apply k)) (is_some (edits_of_answer_to_request k e.answers)) applying.TheVariants.NoSuchAnswer new → ConnectionInvariant e.requested q r s
    → EventLeadsToWithReport (model_from_fields e q s r ap_list md) (editor_acts (apply k)) nothing (model_from_fields new q s r ap_list md)
not_held_happens e new k q r s ap_list md comes sound = (silent_shows (apply k) e new q r s ap_list md comes.0 sound, apply_seen_so e new k applying.TheVariants.NoSuchAnswer comes)

-- ---- taking

pub keep_asks : (e : Editor) (number : ℕ) (edits : List Replacement) → (editor_after_message e (answers number edits)).requested ≡ e.requested
keep_asks e number [] = refl
keep_asks e number (edit ∷ edits) = refl

pub read_asks : (e : Editor) (m : MessageToEditor) → (editor_after_message e m).requested ≡ e.requested
read_asks e (publishes uri version empty) = refl
read_asks e (answers number edits) = keep_asks e number edits

-- When the editor has read the first waiting content, the model's editor has taken the message that it says.
pub taken_happens : (e new : Editor) (q r rest : Contents) (s : ServerState) (ap_list : List applied.Applied) (md : List made.Made) (c : Vec ℕ Global) (m : MessageToEditor) → r ≡ c ∷ rest → message_to_editor_in_content e.requested c.items ≡ Some m → new ≡ editor_after_message e m
    → EventLeadsToWithReport (model_from_fields e q s r ap_list md) take_message (report_on_take (m ∷ [])) (model_from_fields new q s rest ap_list md)
taken_happens e new q r rest s ap_list md c m first means is =
    let waits : messages_to_editor_in_contents e.requested r ≡ m ∷ messages_to_editor_in_contents e.requested rest = ap (messages_to_editor_in_contents e.requested) first ∙ said_first (message_to_editor_in_content e.requested) c rest m means in
    let same : new.requested ≡ e.requested = ap (λ (x : Editor). x.requested) is ∙ read_asks e m in
    let w : ClientAndServer = model_from_fields e q s r ap_list md in
    let after : model_from_fields new q s rest ap_list md ≡ state_after_editor_takes_message w (m ∷ messages_to_editor_in_contents e.requested rest) =
    (λ i. record w { editor = is i; to_server = messages_to_server_in_contents (same i) q; to_editor = messages_to_editor_in_contents (same i) rest }) in
    (after ∙ ap (state_after_editor_takes_message w) (sym waits), of_message m ∙ ap report_on_take (sym waits))
  where
    of_message : (m : MessageToEditor) → report_on_take (m ∷ []) ≡ report_on_take (m ∷ messages_to_editor_in_contents e.requested rest)
    of_message (publishes uri version empty) = refl
    of_message (answers k edits) = refl

-- ---- waiting contents

module _ (s : ServerState) (tk q gt r : Contents) where
  pub writes_none : AppendsAtMostOneContent (wire_from_fields s tk q gt r) (wire_from_fields s tk q gt r)
  writes_none = (None, λ i. record (wire_from_fields s tk q gt r) { to_server = sym (append-nil (bytes_of_contents q)) i })

  pub writes_one : (q' : Contents) (c : Vec ℕ Global) → q' ≡ q ++ c ∷ [] → AppendsAtMostOneContent (wire_from_fields s tk q gt r) (wire_from_fields s tk q' gt r)
  writes_one q' c is = (Some c.items, λ i. record (wire_from_fields s tk q gt r) { to_server = (ap bytes_of_contents is ∙ map-append (λ v. v.items) q (c ∷ [])) i })

  pub writes_sent : {X : Type 0} (q' : Contents) (content : Option (Vec ℕ Global)) (result : Result seen.Seen X) → IfOk result (λ shown. AppendsContentToQueue q content shown q') → OnOk result (AppendsAtMostOneContent (wire_from_fields s tk q gt r) (wire_from_fields s tk q' gt r))
  writes_sent q' content (Err x) sent = tt
  writes_sent q' None (Ok shown) sent = subst (λ x. AppendsAtMostOneContent (wire_from_fields s tk q gt r) (wire_from_fields s tk x gt r)) (sym sent.1) writes_none
  writes_sent q' (Some c) (Ok shown) sent = writes_one q' c sent.1

pub taken_sound : (requested : List SentAsk) (q r rest : Contents) (s : ServerState) (c : Vec ℕ Global) → r ≡ c ∷ rest → ConnectionInvariant requested q r s → ConnectionInvariant requested q rest s
taken_sound requested q r rest s c is sound =
    record { to_server_are_messages = sound.to_server_are_messages; to_editor_are_messages = All-tail (MeansMessageToEditor requested) c rest (subst (All (MeansMessageToEditor requested)) is sound.to_editor_are_messages); running = sound.running }

-- A queue that isn't empty is its first content and the rest.
pub first_of : (r : Contents) (c : Vec ℕ Global) → 0 < length r → c ≡ slice_index_or r 0 c → (rest : Contents) × (r ≡ c ∷ rest)
first_of [] c some is = absurd (omega (arith, some))
first_of (x ∷ rest) c some is = (rest, λ i. sym is i ∷ rest)

-- If the first content of a queue is moved, the rest is left and the content is the last that was got.
pub moved_first : (r r' gt gt' : Contents) (c : Vec ℕ Global) (rest : Contents) → r ≡ c ∷ rest → MovesFirstContent r gt r' gt' → (r' ≡ rest) × (gt' ≡ gt ++ c ∷ [])
moved_first r r' gt gt' c rest is moves = subst (λ x. MovesFirstContent x gt r' gt') is moves

-- A content that waits for the editor is a message to it.
pub taken_says : (requested : List SentAsk) (q r rest : Contents) (s : ServerState) (c : Vec ℕ Global) → r ≡ c ∷ rest → ConnectionInvariant requested q r s → message_to_editor_in_content requested c.items ≡ None → ⊥
taken_says requested q r rest s c is sound silent =
    let says : MeansMessageToEditor requested c = All-head (MeansMessageToEditor requested) c rest (subst (All (MeansMessageToEditor requested)) is sound.to_editor_are_messages) in
    let clash : Some says.0 ≡ None = sym says.1 ∙ silent in
    cc

-- The waiting contents are still messages after a message was put at the end, or not.
pub maybe_pushed : (requested : List SentAsk) (q q' r : Contents) (s : ServerState) (c : Vec ℕ Global) (b : Bool) → q' ≡ cond b (q ++ c ∷ []) q → MeansMessageToServer requested c → ConnectionInvariant requested q r s → ConnectionInvariant requested q' r s
maybe_pushed requested q q' r s c true is says sound = subst (λ x. ConnectionInvariant requested x r s) (sym is) (pushed_sound requested q r s c says.0 says.1 sound)
maybe_pushed requested q q' r s c false is says sound = subst (λ x. ConnectionInvariant requested x r s) (sym is) sound

pub discard_shows : (e new : Editor) (k : ℕ) (q r : Contents) (s : ServerState) (ap_list : List applied.Applied) (md : List made.Made) (held : Bool) → held ≡ is_some (edits_of_answer_to_request k e.answers) → new ≡ editor_without_answer e k → ConnectionInvariant e.requested q r s
    → EventLeadsToWithReport (model_from_fields e q s r ap_list md) (editor_acts (discard k)) (cond held (drops k) nothing) (model_from_fields new q s r ap_list md)
discard_shows e new k q r s ap_list md held is after sound =
    (silent_shows (discard k) e new q r s ap_list md (after, refl, refl) sound, ap (λ b. cond b (drops k) nothing) is)
