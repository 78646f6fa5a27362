-- Defines the invariant of client and server (`Kept`), and proves that it is kept when the editor acts.
use Rattle.std.proofs.Common.{◌≡◌, ◌∙◌, ℕ, Bool, true, false, cond, List, [], ◌∷◌, ◌++◌, refl, sym, ap, subst}
use Rattle.std.specs.Prelude.{◌⊎◌, ⊤, ℤ, fold, All, Some, None, option_map, ◌==◌}
use Rattle.std.specs.Str.{bytes_eq}
use Rattle.std.specs.FinMap as map_of
use Rattle.std.proofs.lemmas.Bool.{eqb-true}
use Rattle.std.proofs.lemmas.Option.{same_Some, none-some}
use Rattle.std.proofs.lemmas.List.Elements.{All-head, All-tail, All-weaker, All-append}
use Rattle.std.proofs.lemmas.List.Sums.{fold-append}
use Rattle.ob0_text.specs.declared.position_types.Unit.{Unit}
use Rattle.ob0_text.specs.OpenDocuments.{OpenDocuments, InStep, document_with_text, DocumentEvent, Opened, Changed, Lost, Closed, TextChange, documents_after_event, changed_document, document_at}
use Rattle.ob0_text.proofs.EntryLaws.{updated-some}
use Rattle.ob0_world_rules.specs.TextEdits.{Replacement, text_after_changes}
use Rattle.ob0_world_rules.specs.ClientAndServer.{OpenDocument, SentAsk, ReceivedAnswer, editor_document_with_uri, MessageToServer, notifies, requests, MessageToEditor, publishes, answers, AppliedEdit, ClientAndServer, documents_after_message}
use Rattle.ob0_world_rules.specs.EditorActs.{ActResult, edits_of_answer_to_request}
use Rattle.ob0_world_rules.specs.Events.{state_after_act}
use Rattle.ob0_world_rules.specs.MirroredDocuments.{documents_after_waiting_messages, in_step_document, ServerWillMirrorEditor}
use Rattle.ob0_world_rules.specs.Headline.{PreservesRun, IsCorrectPublication}
use Rattle.ob0_world_rules.specs.Laws.{EditsPreserveRun}
use Rattle.ob0_world_rules.proofs.UriLaws.{get_put, get_removed, mapped_choice}
use Rattle.ob0_world_rules.proofs.Asked.{Known, Later, still_known}

-- holds if there are no edits, or the edits keep the run of this text
abbrev pub Fits : Unit → List Replacement → List ℕ → Type 0
Fits unit edits text = (edits ≡ []) ⊎ EditsPreserveRun unit text edits

-- holds if an answer in the queue to the editor fits the text of its request
abbrev pub AnswerFits : Unit → List SentAsk → MessageToEditor → Type 0
AnswerFits unit asked (publishes uri version empty) = ⊤
AnswerFits unit asked (answers k edits) = Known asked k (Fits unit edits)

-- holds if an answer that the editor has keeps the run of the text of its request
abbrev pub HeldFits : Unit → List SentAsk → ReceivedAnswer → Type 0
HeldFits unit asked a = Known asked a.number (λ text. EditsPreserveRun unit text a.edits)

-- holds if the document is open and in step in the server with this text
abbrev pub HasText : OpenDocuments → List ℕ → List ℕ → Type 0
HasText held uri text = (version : ℤ) × (document_at held uri ≡ Some (InStep version text))

-- holds if the server, when it takes each request of a queue, will have the text that the request was about
abbrev pub AsksSee : List SentAsk → OpenDocuments → List MessageToServer → Type 0
AsksSee asked held [] = ⊤
AsksSee asked held (notifies note ∷ rest) = AsksSee asked (documents_after_event held note) rest
AsksSee asked held (requests k uri ask ∷ rest) = Known asked k (HasText held uri) × AsksSee asked held rest

pub record Kept (unit : Unit) (w : ClientAndServer) : Type 0 where
  -- client and server count positions in this unit
  pub counts : w.editor.unit ≡ unit
  pub holds : w.held.unit ≡ unit
  pub mirror : ServerWillMirrorEditor w
  pub requested : AsksSee w.editor.requested w.held w.to_server
  pub answered : All (AnswerFits unit w.editor.requested) w.to_editor
  pub answers_held : All (HeldFits unit w.editor.requested) w.editor.answers
  pub applied : All PreservesRun w.applied
  pub made : All IsCorrectPublication w.made

-- ---- the unit

pub note_unit : (held : OpenDocuments) (note : DocumentEvent) → (documents_after_event held note).unit ≡ held.unit
note_unit held (Opened uri version text) = refl
note_unit held (Changed uri version how) = refl
note_unit held (Lost uri) = refl
note_unit held (Closed uri) = refl

pub message_unit : (held : OpenDocuments) (m : MessageToServer) → (documents_after_message held m).unit ≡ held.unit
message_unit held (notifies note) = note_unit held note
message_unit held (requests k uri ask) = refl

will_unit : (held : OpenDocuments) (q : List MessageToServer) → (fold documents_after_message held q).unit ≡ held.unit
will_unit held [] = refl
will_unit held (m ∷ q) = will_unit (documents_after_message held m) q ∙ message_unit held m

-- ---- later on

module _ (unit : Unit) (asked now : List SentAsk) (later : Later asked now) where
  answer_later : (m : MessageToEditor) → AnswerFits unit asked m → AnswerFits unit now m
  answer_later (publishes uri version empty) h = h
  answer_later (answers k edits) h = still_known asked now k (Fits unit edits) later h

  answers_later : (ms : List MessageToEditor) → All (AnswerFits unit asked) ms → All (AnswerFits unit now) ms
  answers_later ms h = All-weaker (AnswerFits unit asked) (AnswerFits unit now) answer_later ms h

  held_later : (list : List ReceivedAnswer) → All (HeldFits unit asked) list → All (HeldFits unit now) list
  held_later list h = All-weaker (HeldFits unit asked) (HeldFits unit now) (λ a known. still_known asked now a.number (λ text. EditsPreserveRun unit text a.edits) later known) list h

asks_later : (asked now : List SentAsk) → Later asked now → (held : OpenDocuments) (q : List MessageToServer) → AsksSee asked held q → AsksSee now held q
asks_later asked now later held [] h = h
asks_later asked now later held (notifies note ∷ rest) h = asks_later asked now later (documents_after_event held note) rest h
asks_later asked now later held (requests k uri ask ∷ rest) h = (still_known asked now k (HasText held uri) later h.0, asks_later asked now later held rest h.1)

asks_append : (asked : List SentAsk) (held : OpenDocuments) (q more : List MessageToServer) → AsksSee asked held q → AsksSee asked (fold documents_after_message held q) more → AsksSee asked held (q ++ more)
asks_append asked held [] more h k = k
asks_append asked held (notifies note ∷ rest) more h k = asks_append asked (documents_after_event held note) rest more h k
asks_append asked held (requests n uri ask ∷ rest) more h k = (h.0, asks_append asked held rest more h.1 k)

-- ---- the editor acts

pub acts_kept : (unit : Unit) (w : ClientAndServer) (done : ActResult) → Kept unit w → Later w.editor.requested done.editor.requested → done.editor.unit ≡ w.editor.unit → done.editor.answers ≡ w.editor.answers
    → ((uri : List ℕ) → document_at (fold documents_after_message (documents_after_waiting_messages w) done.sent) uri ≡ option_map in_step_document (editor_document_with_uri done.editor uri)) → AsksSee done.editor.requested (documents_after_waiting_messages w) done.sent → All PreservesRun done.applied → Kept unit (state_after_act w done)
acts_kept unit w done kept later same_unit same mirror see keeps =
    let asked : List SentAsk = w.editor.requested in
    let now : List SentAsk = done.editor.requested in
    record {
      counts = same_unit ∙ kept.counts;
      holds = kept.holds;
      mirror = λ uri. ap (λ held. document_at held uri) (fold-append documents_after_message w.held w.to_server done.sent) ∙ mirror uri;
      requested = asks_append now w.held w.to_server done.sent (asks_later asked now later w.held w.to_server kept.requested) see;
      answered = answers_later unit asked now later w.to_editor kept.answered;
      answers_held = subst (λ list. All (HeldFits unit now) list) (sym same) (held_later unit asked now later w.editor.answers kept.answers_held);
      applied = All-append PreservesRun w.applied done.applied kept.applied keeps;
      made = kept.made;
    }

-- Inserting a document at client and server keeps the mirror.
put_mirror : (w : ClientAndServer) (uri : List ℕ) (d : OpenDocument) → ServerWillMirrorEditor w → (q : List ℕ)
    → map_of.get (map_of.insert (documents_after_waiting_messages w).by_uri uri (in_step_document d)) q ≡ option_map in_step_document (map_of.get (map_of.insert w.editor.documents uri d) q)
put_mirror w uri d mirror q =
    get_put (documents_after_waiting_messages w).by_uri uri (in_step_document d) q ∙ ap (cond (bytes_eq q uri) (Some (in_step_document d))) (mirror q)
    ∙ sym (mapped_choice in_step_document (bytes_eq q uri) (Some d) (map_of.get w.editor.documents q))
    ∙ ap (option_map in_step_document) (sym (get_put w.editor.documents uri d q))

pub put_mirrors : (w : ClientAndServer) (uri : List ℕ) (d : OpenDocument) → ServerWillMirrorEditor w → (q : List ℕ)
    → map_of.get (map_of.insert (documents_after_waiting_messages w).by_uri uri (in_step_document d)) q ≡ option_map in_step_document (map_of.get (map_of.insert w.editor.documents uri d) q)
put_mirrors w uri d mirror q = put_mirror w uri d mirror q

pub remove_mirrors : (w : ClientAndServer) (uri : List ℕ) → ServerWillMirrorEditor w → (q : List ℕ)
    → map_of.get (map_of.remove (documents_after_waiting_messages w).by_uri uri) q ≡ option_map in_step_document (map_of.get (map_of.remove w.editor.documents uri) q)
remove_mirrors w uri mirror q =
    get_removed (documents_after_waiting_messages w).by_uri uri q ∙ ap (cond (bytes_eq q uri) None) (mirror q)
    ∙ sym (mapped_choice in_step_document (bytes_eq q uri) None (map_of.get w.editor.documents q))
    ∙ ap (option_map in_step_document) (sym (get_removed w.editor.documents uri q))

-- Changing a document's text at client and server keeps the mirror.
change_mirrors : (w : ClientAndServer) (uri : List ℕ) (d new : OpenDocument) (how : List TextChange) → ServerWillMirrorEditor w → (documents_after_waiting_messages w).unit ≡ w.editor.unit → editor_document_with_uri w.editor uri ≡ Some d
    → text_after_changes w.editor.unit (Some d.text) how ≡ Some new.text → (q : List ℕ)
    → document_at (documents_after_event (documents_after_waiting_messages w) (Changed uri new.version how)) q ≡ option_map in_step_document (map_of.get (map_of.insert w.editor.documents uri new) q)
change_mirrors w uri d new how mirror same_unit was_open is q =
    let held : document_at (documents_after_waiting_messages w) uri ≡ Some (in_step_document d) = mirror uri ∙ ap (option_map in_step_document) was_open in
    ap (λ m. map_of.get m q) (updated-some (documents_after_waiting_messages w).by_uri uri (changed_document (documents_after_waiting_messages w).unit new.version how) (in_step_document d) held)
    ∙ ap (λ text. map_of.get (map_of.insert (documents_after_waiting_messages w).by_uri uri (document_with_text new.version text)) q) (ap (λ u. text_after_changes u (Some d.text) how) same_unit ∙ is)
    ∙ put_mirror w uri new mirror q

-- Giving an open document another version and text keeps the invariant if the server is sent the changes.
pub revise_kept : (unit : Unit) (w : ClientAndServer) (uri : List ℕ) (d new : OpenDocument) (how : List TextChange) (applied : List AppliedEdit) → Kept unit w → editor_document_with_uri w.editor uri ≡ Some d
    → text_after_changes w.editor.unit (Some d.text) how ≡ Some new.text → All PreservesRun applied
    → Kept unit (state_after_act w (record { editor = record w.editor { documents = map_of.insert w.editor.documents uri new }; sent = notifies (Changed uri new.version how) ∷ []; applied = applied }))
revise_kept unit w uri d new how applied kept was_open is keeps =
    acts_kept unit w (record { editor = record w.editor { documents = map_of.insert w.editor.documents uri new }; sent = notifies (Changed uri new.version how) ∷ []; applied = applied }) kept (λ k a is. is)
    refl refl (change_mirrors w uri d new how kept.mirror (will_unit w.held w.to_server ∙ kept.holds ∙ sym kept.counts) was_open is) tt keeps

-- ---- answers in the editor

-- Replacing the editor's answers and its queue keeps the invariant if the new answers and the new queue fit.
pub answers_kept : (unit : Unit) (w : ClientAndServer) (list : List ReceivedAnswer) (queue : List MessageToEditor) → Kept unit w → All (HeldFits unit w.editor.requested) list → All (AnswerFits unit w.editor.requested) queue
    → Kept unit (record w { editor = record w.editor { answers = list }; to_editor = queue })
answers_kept unit w list queue kept held fit =
    record {
      counts = kept.counts;
      holds = kept.holds;
      mirror = kept.mirror;
      requested = kept.requested;
      answered = fit;
      answers_held = held;
      applied = kept.applied;
      made = kept.made;
    }

pub held_known : (unit : Unit) (asked : List SentAsk) (k : ℕ) (list : List ReceivedAnswer) (edits : List Replacement) → edits_of_answer_to_request k list ≡ Some edits → All (HeldFits unit asked) list → Known asked k (λ text. EditsPreserveRun unit text edits)
held_known unit asked k [] edits h all = absurd (none-some edits h)
held_known unit asked k (a ∷ rest) edits h all =
    go (a.number == k) refl h (λ later. held_known unit asked k rest edits later (All-tail (HeldFits unit asked) a rest all))
  where
    go : (b : Bool) → a.number == k ≡ b → cond b (Some a.edits) (edits_of_answer_to_request k rest) ≡ Some edits → (edits_of_answer_to_request k rest ≡ Some edits → Known asked k (λ text. EditsPreserveRun unit text edits)) → Known asked k (λ text. EditsPreserveRun unit text edits)
    go true is h next =
        subst (λ n. Known asked n (λ text. EditsPreserveRun unit text edits)) (eqb-true a.number k is)
        (subst (λ es. Known asked a.number (λ text. EditsPreserveRun unit text es)) (same_Some a.edits edits h) (All-head (HeldFits unit asked) a rest all))
    go false is h next = next h
