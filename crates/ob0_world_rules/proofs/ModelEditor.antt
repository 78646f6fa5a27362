-- Proves that the model's editor keeps ob0's rules: each of its acts is an allowed move, or changes
-- nothing.
use Rattle.std.proofs.Common.{◌≡◌, ◌∙◌, ℕ, ◌+◌, cond, inl, inr, List, [], ◌∷◌, ◌++◌, map, append-nil, append_assoc, refl, sym, ap, subst}
use Rattle.std.specs.Prelude.{◌⊎◌, ℤ, pos, Some}
use Rattle.std.proofs.lemmas.List.{map-append}
use Rattle.ob0_text.specs.declared.position_types.Unit.{Unit}
use Rattle.ob0_text.specs.OpenDocuments.{TextChange, changed_text}
use Rattle.ob0_world_rules.specs.TextEdits.{Replacement, text_after_edits, whole_text_change, text_after_changes}
use Rattle.ob0_world_rules.specs.ClientAndServer.{OpenDocument, EditorDocuments, SentAsk, Editor, sent_ask_with_number, editor_document_with_uri, MessageToServer, MessageToEditor, publishes, answers, ClientAndServer, initial_client_and_server, documents_after_message}
use Rattle.ob0_world_rules.specs.EditorActs.{EditorAct, ActResult, next_version, result_without_messages, result_of_opening_document, result_of_changing_text, edits_of_answer_to_request, editor_without_answer, act_result, editor_after_message}
use Rattle.ob0_world_rules.specs.Events.{Event, editor_acts, serve, take_message, state_after_act, state_after_editor_takes_message, ServerTakesFirstMessage, EventLeadsTo, IsCourse}
use Rattle.ob0_world_rules.specs.Headline.{GuaranteesHold}
use Rattle.ob0_world_rules.specs.MirroredDocuments.{ServerWillMirrorEditor}
use Rattle.ob0_world_rules.specs.Laws.{ServerMirrorsEditor}
use Rattle.ob0_world_rules.specs.PublicationsAreInOrder.{AnnouncedDocument, announced_document_if_open, documents_announced_by_sent_messages, documents_announced_by_event, EventsAnnounceDocuments, uris_and_versions_announced_in_queue, PublicationsAreInOrder}
use Rattle.ob0_world_rules.specs.EditorMoves.{Revision, EditorMove, editor_opens, editor_revises, editor_closes, editor_asks, editor_applies, editor_discards, revised_document, editor_with_document, RevisesDocument, AppliesAnswer, IsAllowedMove}
use Rattle.ob0_world_rules.specs.EveryEditor.{EditorAndServer, model_state_of, ExchangeTurn, editor_moves, server_takes_message, editor_takes_message, ServerTakesNextMessage, state_after_editor_takes_next_message, TurnMayLeadTo, IsCourseOfTurns, GuaranteesHoldForEditorAndServer, ModelEditorKeepsRules}
use Rattle.ob0_world_rules.proofs.SameDocument.{Same, Knows, same_text, knows_first, knows_other, knows_open, knows_rewrite, knows_close, knows_ask}
use Rattle.ob0_world_rules.proofs.PerformsAct.{edit_of, of_each}
use Rattle.ob0_world_rules.proofs.EveryEditor.{others_none, guarantees_hold_for_every_editor}
use Rattle.std.specs.FinMap as map_of
use Rattle.ob0_world_rules.proofs.UriLaws.{get_put, uri_itself}
use Rattle.ob0_world_rules.proofs.CourseIsDetermined.{course_is_determined}

-- returns the model's state with the announced documents and no other messages
abbrev pub from_model : ClientAndServer → List AnnouncedDocument → EditorAndServer
from_model w announced =
    record {
      editor = w.editor;
      to_server = map Some w.to_server;
      held = w.held;
      to_editor = map Some w.to_editor;
      announced = announced;
      applied = w.applied;
      made = w.made;
    }

-- states that some turns may lead from one state of the model to the other, and announce the documents `more`
record ComesTo (w : ClientAndServer) (announced : List AnnouncedDocument) (new : ClientAndServer) (more : List AnnouncedDocument) : Type 0 where
  turns : List ExchangeTurn
  lead : IsCourseOfTurns (from_model w announced) turns (from_model new (announced ++ more))

-- One turn leads to its result.
by_turn : (w : ClientAndServer) (announced : List AnnouncedDocument) (new : ClientAndServer) (more : List AnnouncedDocument) (turn : ExchangeTurn) → TurnMayLeadTo (from_model w announced) turn (from_model new (announced ++ more)) → ComesTo w announced new more
by_turn w announced new more turn happens = record { turns = turn ∷ []; lead = (from_model new (announced ++ more), happens, refl) }

-- One turn that announces nothing leads to its result.
by_quiet_turn : (w : ClientAndServer) (announced : List AnnouncedDocument) (new : ClientAndServer) (turn : ExchangeTurn) → TurnMayLeadTo (from_model w announced) turn (from_model new announced) → ComesTo w announced new []
by_quiet_turn w announced new turn happens = by_turn w announced new [] turn (subst (λ ts. TurnMayLeadTo (from_model w announced) turn (from_model new ts)) (sym (append-nil announced)) happens)

-- An equal state is reached without any turn.
as_it_was : (w new : ClientAndServer) (announced : List AnnouncedDocument) → new ≡ w → ComesTo w announced new []
as_it_was w new announced is = record { turns = []; lead = λ i. from_model (is i) (append-nil announced i) }

by_move : (w : ClientAndServer) (announced : List AnnouncedDocument) (move : EditorMove) (done : ActResult) (more : List AnnouncedDocument) → IsAllowedMove w.editor move done more → ComesTo w announced (state_after_act w done) more
by_move w announced move done more may =
    by_turn w announced (state_after_act w done) more (editor_moves move)
    (done, more, may, λ i. record (from_model (state_after_act w done) (announced ++ more)) { to_server = map-append Some w.to_server done.sent i })

-- A document that is inserted is the one that is announced.
put_announced : (docs : EditorDocuments) (uri : List ℕ) (d : OpenDocument) → announced_document_if_open uri (map_of.get (map_of.insert docs uri d) uri) ++ [] ≡ record { uri = uri; document = d } ∷ []
put_announced docs uri d = ap (λ o. announced_document_if_open uri o ++ []) (get_put docs uri d uri ∙ ap (λ b. cond b (Some d) (map_of.get docs uri)) (uri_itself uri))

-- returns the revision with the next version and this text, by one notification
abbrev rewrite_of : ℤ → List ℕ → List TextChange → Revision
rewrite_of version text how = record { version = next_version version; text = text; sent_changes = how }

rewritten_revises : (e : Editor) (uri : List ℕ) (d : OpenDocument) (how : List TextChange) (text : List ℕ) → editor_document_with_uri e uri ≡ Some d → text_after_changes e.unit (Some d.text) how ≡ Some text
    → RevisesDocument e uri (rewrite_of d.version text how ∷ []) (editor_with_document e uri (revised_document d (rewrite_of d.version text how))) (record { uri = uri; document = revised_document d (rewrite_of d.version text how) } ∷ [])
rewritten_revises e uri d how text at makes = (d, [], at, makes, (refl, refl), refl)

whole : (u : Unit) (old text : List ℕ) → text_after_changes u (Some old) (whole_text_change text ∷ []) ≡ Some text
unfolding changed_text
whole u old text = refl

applied_so : (e : Editor) (k : ℕ) (edits : List Replacement) (a : SentAsk) (d : OpenDocument) (text : List ℕ) → edits_of_answer_to_request k e.answers ≡ Some edits → sent_ask_with_number e.requested k ≡ Some a → Same e a d → d.text ≡ a.text → text_after_edits e.unit d.text edits ≡ Some text
    → AppliesAnswer e k (rewrite_of d.version text (whole_text_change text ∷ []) ∷ []) (result_of_changing_text (editor_without_answer e k) a.uri d text (whole_text_change text ∷ []) (edit_of a.uri d text ∷ [])) (record { uri = a.uri; document = revised_document d (rewrite_of d.version text (whole_text_change text ∷ [])) } ∷ [])
applied_so e k edits a d text answered numbered same as_asked makes =
    let r : Revision = rewrite_of d.version text (whole_text_change text ∷ []) in
    record {
      edits = edits;
      answered = answered;
      requested = a;
      numbered = numbered;
      document = d;
      is_open = same.at;
      same_text = as_asked;
      edited = text;
      makes = makes;
      text = text;
      same_tokens = inl refl;
      new = editor_with_document (editor_without_answer e k) a.uri (revised_document d r);
      revises = rewritten_revises (editor_without_answer e k) a.uri d (whole_text_change text ∷ []) text same.at (whole e.unit d.text text);
      is = refl;
    }

-- ---- the asks of the model's editor

knows_act : (e : Editor) (act : EditorAct) → Knows e → Knows (act_result e act).editor
knows_act e act knows =
    of_each e (λ done. Knows done.editor)
    (record {
      still = knows;
      opened = λ uri text none. knows_open e uri text knows;
      changed = λ uri d how text at makes. knows_rewrite e uri d text how [] at knows;
      closed = λ uri d at. knows_close e uri knows;
      asked = λ uri ask d at. knows_ask e uri ask d at knows;
      made = λ k edits a d text answered numbered same makes.
          knows_rewrite (editor_without_answer e k) a.uri d text (whole_text_change text ∷ []) (edit_of a.uri d text ∷ []) same.at (knows_other e (editor_without_answer e k).answers knows);
      dropped = λ k. knows_other e (editor_without_answer e k).answers knows;
    })
    act

knows_read : (e : Editor) (m : MessageToEditor) → Knows e → Knows (editor_after_message e m)
knows_read e (publishes uri version empty) knows = knows
knows_read e (answers k []) knows = knows
knows_read e (answers k (edit ∷ edits)) knows = knows_other e (editor_after_message e (answers k (edit ∷ edits))).answers knows

pub knows_event : (w : ClientAndServer) (event : Event) (new : ClientAndServer) → Knows w.editor → EventLeadsTo w event new → Knows new.editor
knows_event w (editor_acts act) new knows is = subst (λ (x : ClientAndServer). Knows x.editor) (sym is) (knows_act w.editor act knows)
knows_event w serve new knows happens = go w.to_server happens
  where
    go : (queue : List MessageToServer) → ServerTakesFirstMessage w queue new → Knows new.editor
    go [] is = subst (λ (x : ClientAndServer). Knows x.editor) (sym is) knows
    go (m ∷ rest) (said, made, replies, is) = subst (λ (x : ClientAndServer). Knows x.editor) (sym is) knows
knows_event w take_message new knows is = subst (λ (x : ClientAndServer). Knows x.editor) (sym is) (go w.to_editor)
  where
    go : (queue : List MessageToEditor) → Knows (state_after_editor_takes_message w queue).editor
    go [] = knows
    go (m ∷ rest) = knows_read w.editor m knows

-- ---- each event

-- An act that does nothing leaves an equal state.
nothing_done : (w : ClientAndServer) → state_after_act w (result_without_messages w.editor) ≡ w
nothing_done w i = record w { to_server = append-nil w.to_server i; applied = append-nil w.applied i }

-- holds if an act changes nothing, or is a move that the editor may make and that announces what its messages announce
abbrev pub IsMove : Editor → ActResult → Type 0
IsMove e done = (done ≡ result_without_messages e) ⊎ ((move : EditorMove) × IsAllowedMove e move done (documents_announced_by_sent_messages done.editor done.sent))

moves : (e : Editor) (done : ActResult) (move : EditorMove) (announced : List AnnouncedDocument) → documents_announced_by_sent_messages done.editor done.sent ≡ announced → IsAllowedMove e move done announced → IsMove e done
moves e done move announced are may = inr (move, subst (IsAllowedMove e move done) (sym are) may)

pub act_may : (e : Editor) (act : EditorAct) → Knows e → IsMove e (act_result e act)
act_may e act knows =
    of_each e (IsMove e)
    (record {
      still = inl refl;
      opened = λ uri text none.
          let d : OpenDocument = record { version = pos 1; text = text; opening = e.openings + 1 } in
          moves e (result_of_opening_document e uri text) (editor_opens uri (pos 1) text) (record { uri = uri; document = d } ∷ []) (put_announced e.documents uri d) (refl, refl);
      changed = λ uri d how text at makes.
          let r : Revision = rewrite_of d.version text how in
          moves e (result_of_changing_text e uri d text how []) (editor_revises uri (r ∷ [])) (record { uri = uri; document = revised_document d r } ∷ []) (put_announced e.documents uri (revised_document d r))
          (editor_with_document e uri (revised_document d r), rewritten_revises e uri d how text at makes, refl);
      closed = λ uri d at. inr (editor_closes uri, (refl, refl));
      asked = λ uri ask d at. inr (editor_asks uri ask, (d, at, refl, refl));
      made = λ k edits a d text answered numbered same makes.
          let r : Revision = rewrite_of d.version text (whole_text_change text ∷ []) in
          moves e (result_of_changing_text (editor_without_answer e k) a.uri d text (whole_text_change text ∷ []) (edit_of a.uri d text ∷ [])) (editor_applies k (r ∷ [])) (record { uri = a.uri; document = revised_document d r } ∷ [])
          (put_announced e.documents a.uri (revised_document d r)) (applied_so e k edits a d text answered numbered same (same_text e k a d knows numbered same) makes);
      dropped = λ k. inr (editor_discards k, (refl, refl));
    })
    act

act_comes : (w : ClientAndServer) (announced : List AnnouncedDocument) (act : EditorAct) → Knows w.editor → ComesTo w announced (state_after_act w (act_result w.editor act)) (documents_announced_by_event w (editor_acts act))
act_comes w announced act knows = go (act_result w.editor act) (act_may w.editor act knows)
  where
    go : (done : ActResult) → IsMove w.editor done → ComesTo w announced (state_after_act w done) (documents_announced_by_sent_messages done.editor done.sent)
    go done (inl is) = subst (λ (d : ActResult). ComesTo w announced (state_after_act w d) (documents_announced_by_sent_messages d.editor d.sent)) (sym is) (as_it_was w (state_after_act w (result_without_messages w.editor)) announced (nothing_done w))
    go done (inr (move, may)) = by_move w announced move done (documents_announced_by_sent_messages done.editor done.sent) may

serve_comes : (w : ClientAndServer) (announced : List AnnouncedDocument) (queue : List MessageToServer) (new : ClientAndServer) → w.to_server ≡ queue → ServerTakesFirstMessage w queue new → ComesTo w announced new []
serve_comes w announced [] new waits is = as_it_was w new announced is
serve_comes w announced (m ∷ rest) new waits (said, made, replies, is) =
    let takes : ServerTakesNextMessage (from_model w announced) (Some m ∷ map Some rest) (from_model new announced) = (
      said,
      made,
      replies,
      ap (λ x. from_model x announced) is ∙ (λ i. record (from_model w announced) {
        to_server = map Some rest;
        held = documents_after_message w.held m;
        to_editor = map-append Some w.to_editor said i;
        made = w.made ++ made;
      }),
    ) in
    by_quiet_turn w announced new server_takes_message (subst (λ q. ServerTakesNextMessage (from_model w announced) q (from_model new announced)) (ap (map Some) (sym waits)) takes)

take_comes : (w : ClientAndServer) (announced : List AnnouncedDocument) (queue : List MessageToEditor) → w.to_editor ≡ queue → ComesTo w announced (state_after_editor_takes_message w queue) []
take_comes w announced [] waits = as_it_was w w announced refl
take_comes w announced (m ∷ rest) waits =
    by_quiet_turn w announced (state_after_editor_takes_message w (m ∷ rest)) editor_takes_message
    (subst (λ q. from_model (state_after_editor_takes_message w (m ∷ rest)) announced ≡ state_after_editor_takes_next_message (from_model w announced) (map Some q)) (sym waits) refl)

event_comes : (w : ClientAndServer) (announced : List AnnouncedDocument) (event : Event) (new : ClientAndServer) → Knows w.editor → EventLeadsTo w event new → ComesTo w announced new (documents_announced_by_event w event)
event_comes w announced (editor_acts act) new knows is = subst (λ x. ComesTo w announced x (documents_announced_by_event w (editor_acts act))) (sym is) (act_comes w announced act knows)
event_comes w announced serve new knows happens = serve_comes w announced w.to_server new refl happens
event_comes w announced take_message new knows is = subst (λ x. ComesTo w announced x []) (sym is) (take_comes w announced w.to_editor refl)

lead_append : (turns more : List ExchangeTurn) (w between new : EditorAndServer) → IsCourseOfTurns w turns between → IsCourseOfTurns between more new → IsCourseOfTurns w (turns ++ more) new
lead_append [] more w between new is lead = subst (λ x. IsCourseOfTurns x more new) is lead
lead_append (turn ∷ turns) more w between new (mid, happens, rest) lead = (mid, happens, lead_append turns more mid between new rest lead)

-- states which documents events announce, and that turns may lead where the events lead
record Led (w : ClientAndServer) (announced : List AnnouncedDocument) (events : List Event) (new : ClientAndServer) : Type 0 where
  more : List AnnouncedDocument
  are : EventsAnnounceDocuments w events more
  comes : ComesTo w announced new more

course_comes : (events : List Event) (w : ClientAndServer) (announced : List AnnouncedDocument) (new : ClientAndServer) → Knows w.editor → IsCourse w events new → Led w announced events new
course_comes [] w announced new knows is = record { more = []; are = refl; comes = as_it_was w new announced is }
course_comes (event ∷ events) w announced new knows (between, happens, run) =
    let now : List AnnouncedDocument = documents_announced_by_event w event in
    let first : ComesTo w announced between now = event_comes w announced event between knows happens in
    let rest : Led between (announced ++ now) events new = course_comes events between (announced ++ now) new (knows_event w event between knows happens) run in
    let all : List AnnouncedDocument = now ++ rest.more in
    record {
      more = all;
      are = (between, rest.more, happens, rest.are, refl);
      comes = record {
        turns = first.turns ++ rest.comes.turns;
        lead = subst (λ ts. IsCourseOfTurns (from_model w announced) (first.turns ++ rest.comes.turns) (from_model new ts)) (append_assoc announced now rest.more)
            (lead_append first.turns rest.comes.turns (from_model w announced) (from_model between (announced ++ now)) (from_model new ((announced ++ now) ++ rest.more)) first.lead rest.comes.lead);
      };
    }

-- Translating a state of the model to the model of every editor and back gives the same state.
as_it_is : (w : ClientAndServer) (announced : List AnnouncedDocument) → model_state_of (from_model w announced) ≡ w
as_it_is w announced i = record w { to_server = others_none w.to_server i; to_editor = others_none w.to_editor i }

pub model_editor_keeps_rules : ModelEditorKeepsRules
model_editor_keeps_rules unit events end run =
    let led : Led (initial_client_and_server unit) [] events end = course_comes events (initial_client_and_server unit) [] end (knows_first unit) run in
    (led.comes.turns, from_model end led.more, led.comes.lead, as_it_is end led.more)

-- The laws of the model's editor follow from the laws of every editor.
pub guarantees_hold_in_every_interleaving : (unit : Unit) (events : List Event) (w : ClientAndServer) → IsCourse (initial_client_and_server unit) events w → GuaranteesHold w
guarantees_hold_in_every_interleaving unit events end run =
    let (turns, w, lead, is) = model_editor_keeps_rules unit events end run in
    subst GuaranteesHold is (guarantees_hold_for_every_editor unit turns w lead).holds

pub server_mirrors_editor : ServerMirrorsEditor
server_mirrors_editor unit events end run =
    let (turns, w, lead, is) = model_editor_keeps_rules unit events end run in
    subst ServerWillMirrorEditor is (guarantees_hold_for_every_editor unit turns w lead).mirrors

pub publications_are_in_order : PublicationsAreInOrder
publications_are_in_order unit events end run =
    let led : Led (initial_client_and_server unit) [] events end = course_comes events (initial_client_and_server unit) [] end (knows_first unit) run in
    let holds : GuaranteesHoldForEditorAndServer (from_model end led.more) = guarantees_hold_for_every_editor unit led.comes.turns (from_model end led.more) led.comes.lead in
    record {
      announced = holds.published;
      waiting = holds.waiting;
      all = subst (EventsAnnounceDocuments (initial_client_and_server unit) events) holds.all led.are;
      are_made_for_documents = holds.are_made_for_documents;
      unpublished_are_queued = λ other too. holds.unpublished_are_queued ∙ ap uris_and_versions_announced_in_queue (others_none end.to_server) ∙ ap (λ (x : ClientAndServer). uris_and_versions_announced_in_queue x.to_server) (course_is_determined (initial_client_and_server unit) events end other run too);
    }
