-- Proves the guarantees for every editor that keeps ob0's rules. Each turn keeps the invariant of
-- the model, if the messages outside the model are left out of the queues.
use Rattle.std.proofs.Common.{◌≡◌, ◌∙◌, ℕ, suc, ◌+◌, cond, List, [], ◌∷◌, ◌++◌, map, length, append-nil, append_assoc, refl, sym, ap, subst}
use Rattle.std.specs.Prelude.{ℤ, All, Option, Some, None, option_map}
use Rattle.std.specs.FinMap as map_of
use Rattle.std.proofs.lemmas.Option.{same_Some}
use Rattle.std.proofs.lemmas.List.Elements.{All-nil, All-push}
use Rattle.std.proofs.lemmas.List.Sums.{fold_push}
use Rattle.ob0_text.specs.declared.position_types.Unit.{Unit}
use Rattle.ob0_text.specs.OpenDocuments.{OpenDocuments, Opened, Changed, Closed, document_at}
use Rattle.ob0_world_rules.specs.WellTypedTexts.{WellTypedText, SameRun}
use Rattle.ob0_world_rules.specs.TextEdits.{text_after_edits}
use Rattle.ob0_world_rules.specs.ClientAndServer.{OpenDocument, SentAsk, Editor, editor_document_with_uri, MessageToServer, notifies, requests, MessageToEditor, AppliedEdit, ClientAndServer, documents_after_message}
use Rattle.ob0_world_rules.specs.EditorActs.{ActResult, result_without_messages, result_of_closing_document, result_of_sending_ask, editor_without_answer}
use Rattle.ob0_world_rules.specs.Events.{state_after_act, ServerTakesFirstMessage}
use Rattle.ob0_world_rules.specs.MirroredDocuments.{documents_after_waiting_messages, in_step_document}
use Rattle.ob0_world_rules.specs.Headline.{PreservesRun}
use Rattle.ob0_world_rules.specs.Laws.{EditsPreserveRun}
use Rattle.ob0_world_rules.specs.PublicationsAreInOrder.{AnnouncedDocument, AreMadeForDocumentsInOrder, uri_and_version_announced_by_message, uri_and_version_of}
use Rattle.ob0_world_rules.specs.EditorMoves.{Revision, EditorMove, editor_opens, editor_revises, editor_closes, editor_asks, editor_applies, editor_discards, revised_document, editor_with_document, RevisesDocument, notifications_of_revisions, AppliesAnswer, result_of_opening_given_document, IsAllowedMove}
use Rattle.ob0_world_rules.specs.EveryEditor.{EditorAndServer, initial_editor_and_server, modeled_messages, notifications_in_queue, model_state_of, ExchangeTurn, editor_moves, editor_sends_unmodeled_message, server_takes_message, editor_takes_message, state_after_move, ServerTakesNextMessage, state_after_editor_takes_next_message, TurnMayLeadTo, IsCourseOfTurns, GuaranteesHoldForEditorAndServer}
use Rattle.ob0_world_rules.proofs.UriLaws.{get_put, uri_itself}
use Rattle.ob0_world_rules.proofs.SameTokens.{applied_keeps}
use Rattle.ob0_world_rules.proofs.Asked.{Known}
use Rattle.ob0_world_rules.proofs.Keeping.{AnswerFits, Kept, acts_kept, revise_kept, held_known}
use Rattle.ob0_world_rules.proofs.Interleavings.{opened_kept, close_kept, ask_kept, still_kept, take_kept, without_kept, serve_kept, start_kept, up_to_date, AreLatest, Both}
use Rattle.ob0_world_rules.proofs.Pending.{Awaits, Pending, pending_push, pending_named, Next, serve_next}

-- ---- queues with other messages

pub others_append : {A : Type 0} (xs ys : List (Option A)) → modeled_messages (xs ++ ys) ≡ modeled_messages xs ++ modeled_messages ys
others_append [] ys = refl
others_append (None ∷ xs) ys = others_append xs ys
others_append (Some x ∷ xs) ys = ap (λ zs. x ∷ zs) (others_append xs ys)

pub others_none : {A : Type 0} (xs : List A) → modeled_messages (map Some xs) ≡ xs
others_none [] = refl
others_none (x ∷ xs) = ap (λ zs. x ∷ zs) (others_none xs)

pub others_push : {A : Type 0} (queue : List (Option A)) (more : List A) → modeled_messages (queue ++ map Some more) ≡ modeled_messages queue ++ more
others_push queue more = others_append queue (map Some more) ∙ ap (λ ms. modeled_messages queue ++ ms) (others_none more)

module _ (unit : Unit) where
  -- ---- the invariant of every turn

  -- states the invariant: the model's state is `Kept`, and the publications are made for the announced documents, in
  -- order
  record Good (w : EditorAndServer) : Type 0 where
    kept : Kept unit (model_state_of w)
    latest : AreLatest unit w.held w.made
    published : List AnnouncedDocument
    waiting : List AnnouncedDocument
    all : w.announced ≡ published ++ waiting
    are_made_for_documents : AreMadeForDocumentsInOrder w.made published
    pending : Pending w.held (modeled_messages w.to_server) waiting

  -- A move in the model is the same move without the other messages.
  moved_so : (w : EditorAndServer) (done : ActResult) (announced : List AnnouncedDocument) → state_after_act (model_state_of w) done ≡ model_state_of (state_after_move w done announced)
  moved_so w done announced i =
      record (model_state_of w) {
        editor = done.editor;
        to_server = sym (others_push w.to_server done.sent) i;
        applied = w.applied ++ done.applied;
      }

  -- A move that sends no message keeps the invariant.
  none_sent : (w : EditorAndServer) (e : Editor) (applied : List AppliedEdit) → Good w → Kept unit (state_after_act (model_state_of w) (record { editor = e; sent = []; applied = applied })) → Good (state_after_move w (record { editor = e; sent = []; applied = applied }) [])
  none_sent w e applied good kept =
      let done : ActResult = record { editor = e; sent = []; applied = applied } in
      record {
        kept = subst (Kept unit) (moved_so w done []) kept;
        latest = good.latest;
        published = good.published;
        waiting = good.waiting;
        all = append-nil w.announced ∙ good.all;
        are_made_for_documents = good.are_made_for_documents;
        pending = subst (λ q. Pending w.held q good.waiting) (sym (others_push w.to_server [] ∙ append-nil (modeled_messages w.to_server))) good.pending;
      }

  -- A move that sends one message keeps the invariant.
  one_sent : (w : EditorAndServer) (e : Editor) (m : MessageToServer) (announced : List AnnouncedDocument) (applied : List AppliedEdit) → Good w → Kept unit (state_after_act (model_state_of w) (record { editor = e; sent = m ∷ []; applied = applied }))
      → ((held : OpenDocuments) → ((uri : List ℕ) → document_at (documents_after_message held m) uri ≡ option_map in_step_document (editor_document_with_uri e uri)) → Awaits held m announced)
      → map uri_and_version_of announced ≡ uri_and_version_announced_by_message m
      → Good (state_after_move w (record { editor = e; sent = m ∷ []; applied = applied }) announced)
  one_sent w e m announced applied good kept awaits names =
      let done : ActResult = record { editor = e; sent = m ∷ []; applied = applied } in
      let before : OpenDocuments = documents_after_waiting_messages (model_state_of w) in
      let mirror : (uri : List ℕ) → document_at (documents_after_message before m) uri ≡ option_map in_step_document (editor_document_with_uri e uri) =
      λ uri. sym (ap (λ held. document_at held uri) (fold_push documents_after_message w.held (modeled_messages w.to_server) m)) ∙ kept.mirror uri in
      record {
        kept = subst (Kept unit) (moved_so w done announced) kept;
        latest = good.latest;
        published = good.published;
        waiting = good.waiting ++ announced;
        all = ap (λ ts. ts ++ announced) good.all ∙ append_assoc good.published good.waiting announced;
        are_made_for_documents = good.are_made_for_documents;
        pending = subst (λ q. Pending w.held q (good.waiting ++ announced)) (sym (others_push w.to_server (m ∷ [])))
            (pending_push w.held (modeled_messages w.to_server) m good.waiting announced good.pending (awaits before mirror, names));
      }

  -- ---- the editor's moves

  -- A document is found under the uri under which it was inserted.
  put_there : (held : OpenDocuments) (e : Editor) (uri : List ℕ) (d : OpenDocument) (m : MessageToServer) → ((q : List ℕ) → document_at (documents_after_message held m) q ≡ option_map in_step_document (editor_document_with_uri (editor_with_document e uri d) q)) → document_at (documents_after_message held m) uri ≡ Some (in_step_document d)
  put_there held e uri d m mirror = mirror uri ∙ ap (option_map in_step_document) (get_put e.documents uri d uri ∙ ap (λ b. cond b (Some d) (map_of.get e.documents uri)) (uri_itself uri))

  open_good : (w : EditorAndServer) (uri text : List ℕ) (version : ℤ) → Good w
      → Good (state_after_move w (result_of_opening_given_document (record { version = version; text = text; opening = w.editor.openings + 1 }) w.editor uri) (record { uri = uri; document = record { version = version; text = text; opening = w.editor.openings + 1 } } ∷ []))
  open_good w uri text version good =
      let d : OpenDocument = record { version = version; text = text; opening = w.editor.openings + 1 } in
      let m : MessageToServer = notifies (Opened uri version text) in
      one_sent w (record (editor_with_document w.editor uri d) { openings = d.opening }) m (record { uri = uri; document = d } ∷ []) [] good
      (opened_kept unit (model_state_of w) uri text version good.kept)
      (λ held mirror. (Some d, put_there held w.editor uri d m mirror, refl))
      refl

  revisions_good : (revisions : List Revision) (w : EditorAndServer) (uri : List ℕ) (new : Editor) (announced : List AnnouncedDocument) (applied : List AppliedEdit) → Good w → RevisesDocument w.editor uri revisions new announced → All PreservesRun applied
      → Good (state_after_move w (record { editor = new; sent = notifications_of_revisions uri revisions; applied = applied }) announced)
  revisions_good [] w uri new announced applied good (is, none) keeps =
      subst (λ ts. Good (state_after_move w (record { editor = new; sent = []; applied = applied }) ts)) (sym none)
      (none_sent w new applied good
      (subst (λ e. Kept unit (state_after_act (model_state_of w) (record { editor = e; sent = []; applied = applied }))) (sym is)
      (acts_kept unit (model_state_of w) (record { editor = w.editor; sent = []; applied = applied }) good.kept (λ k a same. same) refl refl good.kept.mirror tt keeps)))
  revisions_good (r ∷ more) w uri new announced applied good (d, later, at, makes, rest, is) keeps =
      let m : MessageToServer = notifies (Changed uri r.version r.sent_changes) in
      let first : ActResult = record { editor = editor_with_document w.editor uri (revised_document d r); sent = m ∷ []; applied = [] } in
      let one : List AnnouncedDocument = record { uri = uri; document = revised_document d r } ∷ [] in
      let between : EditorAndServer = state_after_move w first one in
      let so : Good between =
      one_sent w first.editor m one [] good
      (revise_kept unit (model_state_of w) uri d (revised_document d r) r.sent_changes [] good.kept at makes (All-nil PreservesRun))
      (λ held mirror. (Some (revised_document d r), put_there held w.editor uri (revised_document d r) m mirror, refl))
      refl in
      let last : Good (state_after_move between (record { editor = new; sent = notifications_of_revisions uri more; applied = applied }) later) = revisions_good more between uri new later applied so rest keeps in
      subst Good
      (λ i. record w {
        editor = new;
        to_server = append_assoc w.to_server (Some m ∷ []) (map Some (notifications_of_revisions uri more)) i;
        announced = (append_assoc w.announced one later ∙ ap (λ ts. w.announced ++ ts) (sym is)) i;
        applied = ap (λ es. es ++ applied) (append-nil w.applied) i;
      })
      last

  apply_good : (w : EditorAndServer) (k : ℕ) (revisions : List Revision) (done : ActResult) (announced : List AnnouncedDocument) → Good w → AppliesAnswer w.editor k revisions done announced → Good (state_after_move w done announced)
  apply_good w k revisions done announced good a =
      let e : Editor = editor_without_answer w.editor k in
      let known : Known w.editor.requested k (λ text. EditsPreserveRun unit text a.edits) = held_known unit w.editor.requested k w.editor.answers a.edits a.answered good.kept.answers_held in
      let asked : known.requested ≡ a.requested = same_Some known.requested a.requested (sym known.is ∙ a.numbered) in
      let same : known.requested.text ≡ a.document.text = ap (λ (x : SentAsk). x.text) asked ∙ sym a.same_text in
      let keep : EditsPreserveRun unit a.document.text a.edits = subst (λ text. EditsPreserveRun unit text a.edits) same known.holds in
      let is : keep.after ≡ a.edited = same_Some keep.after a.edited (sym keep.makes ∙ ap (λ u. text_after_edits u a.document.text a.edits) (sym good.kept.counts) ∙ a.makes) in
      let applied : AppliedEdit = record { uri = a.requested.uri; before = a.document.text; after = a.text } in
      let keeps : PreservesRun applied =
      applied_keeps a.requested.uri a.document.text a.edited a.text keep.before_is_well_typed (subst WellTypedText is keep.after_is_well_typed) (subst (SameRun a.document.text) is keep.same) a.same_tokens in
      let without : EditorAndServer = record w { editor = e } in
      let so : Good without =
      record {
        kept = without_kept unit (model_state_of w) k good.kept;
        latest = good.latest;
        published = good.published;
        waiting = good.waiting;
        all = good.all;
        are_made_for_documents = good.are_made_for_documents;
        pending = good.pending;
      } in
      subst (λ x. Good (state_after_move w x announced)) (sym a.is)
      (revisions_good revisions without a.requested.uri a.new announced (applied ∷ []) so a.revises (All-push PreservesRun [] applied (All-nil PreservesRun) keeps))

  move_good : (w : EditorAndServer) (move : EditorMove) (done : ActResult) (announced : List AnnouncedDocument) → Good w → IsAllowedMove w.editor move done announced → Good (state_after_move w done announced)
  move_good w (editor_opens uri version text) done announced good (is, are) =
      subst (λ x. Good (state_after_move w x announced)) (sym is)
      (subst (λ ts. Good (state_after_move w (result_of_opening_given_document (record { version = version; text = text; opening = w.editor.openings + 1 }) w.editor uri) ts)) (sym are) (open_good w uri text version good))
  move_good w (editor_revises uri revisions) done announced good (new, revises, is) =
      subst (λ x. Good (state_after_move w x announced)) (sym is) (revisions_good revisions w uri new announced [] good revises (All-nil PreservesRun))
  move_good w (editor_closes uri) done announced good (is, are) =
      subst (λ x. Good (state_after_move w x announced)) (sym is)
      (subst (λ ts. Good (state_after_move w (result_of_closing_document w.editor uri) ts)) (sym are)
      (one_sent w (result_of_closing_document w.editor uri).editor (notifies (Closed uri)) [] [] good (close_kept unit (model_state_of w) uri good.kept) (λ held mirror. refl) refl))
  move_good w (editor_asks uri ask) done announced good (d, at, is, are) =
      subst (λ x. Good (state_after_move w x announced)) (sym is)
      (subst (λ ts. Good (state_after_move w (result_of_sending_ask w.editor uri ask d) ts)) (sym are)
      (one_sent w (result_of_sending_ask w.editor uri ask d).editor (requests (suc (length w.editor.requested)) uri ask) [] [] good (ask_kept unit (model_state_of w) uri ask d at good.kept) (λ held mirror. refl) refl))
  move_good w (editor_applies k revisions) done announced good may = apply_good w k revisions done announced good may
  move_good w (editor_discards k) done announced good (is, are) =
      subst (λ x. Good (state_after_move w x announced)) (sym is)
      (subst (λ ts. Good (state_after_move w (result_without_messages (editor_without_answer w.editor k)) ts)) (sym are)
      (none_sent w (editor_without_answer w.editor k) [] good (still_kept unit (record (model_state_of w) { editor = editor_without_answer w.editor k }) (without_kept unit (model_state_of w) k good.kept))))

  -- ---- the other turns

  -- A turn keeps the invariant if the model's state is the same and nothing is announced.
  unmoved : (w new : EditorAndServer) → Good w → model_state_of w ≡ model_state_of new → w.announced ≡ new.announced → Good new
  unmoved w new good same announced =
      record {
        kept = subst (Kept unit) same good.kept;
        latest = subst (λ (x : ClientAndServer). AreLatest unit x.held x.made) same good.latest;
        published = good.published;
        waiting = good.waiting;
        all = sym announced ∙ good.all;
        are_made_for_documents = subst (λ (x : ClientAndServer). AreMadeForDocumentsInOrder x.made good.published) same good.are_made_for_documents;
        pending = subst (λ (x : ClientAndServer). Pending x.held x.to_server good.waiting) same good.pending;
      }

  says_good : (w : EditorAndServer) → Good w → Good (record w { to_server = w.to_server ++ None ∷ [] })
  says_good w good =
      unmoved w (record w { to_server = w.to_server ++ None ∷ [] }) good
      (λ i. record (model_state_of w) { to_server = (sym (append-nil (modeled_messages w.to_server)) ∙ sym (others_append w.to_server (None ∷ []))) i })
      refl

  serve_good : (w : EditorAndServer) (queue : List (Option MessageToServer)) (new : EditorAndServer) → w.to_server ≡ queue → Good w → ServerTakesNextMessage w queue new → Good new
  serve_good w [] new waits good is = subst Good (sym is) good
  serve_good w (None ∷ rest) new waits good (said, none, is) =
      subst Good (sym is)
      (unmoved w (record w { to_server = rest; to_editor = w.to_editor ++ said }) good
      (λ i. record (model_state_of w) {
        to_server = ap modeled_messages waits i;
        to_editor = sym (others_append w.to_editor said ∙ ap (λ ms. modeled_messages w.to_editor ++ ms) none ∙ append-nil (modeled_messages w.to_editor)) i;
      })
      refl)
  serve_good w (Some m ∷ rest) new waits good (said, made, replies, is) =
      let after : EditorAndServer = record w { to_server = rest; held = documents_after_message w.held m; to_editor = w.to_editor ++ map Some said; made = w.made ++ made } in
      let queue : List MessageToServer = m ∷ modeled_messages rest in
      let same : (model_state_of w).to_server ≡ queue = ap modeled_messages waits in
      let takes : ServerTakesFirstMessage (model_state_of w) queue (model_state_of after) = (said, made, replies, λ i. record (model_state_of after) { to_editor = others_push w.to_editor said i }) in
      let both : Both unit (model_state_of after) = serve_kept unit (model_state_of w) queue (model_state_of after) same (good.kept, good.latest) takes in
      let next : Next good.published good.waiting [] (model_state_of after) =
      serve_next good.published good.waiting (model_state_of w) queue (model_state_of after) good.are_made_for_documents (subst (λ q. Pending w.held q good.waiting) same good.pending) same takes in
      subst Good (sym is)
      (record {
        kept = both.0;
        latest = both.1;
        published = next.done;
        waiting = next.awaits;
        all = good.all ∙ sym (append-nil (good.published ++ good.waiting)) ∙ next.parts;
        are_made_for_documents = next.are_made_for_documents;
        pending = next.pending;
      })

  take_good : (w : EditorAndServer) (queue : List (Option MessageToEditor)) → w.to_editor ≡ queue → Good w → Good (state_after_editor_takes_next_message w queue)
  take_good w [] waits good = good
  take_good w (None ∷ rest) waits good =
      unmoved w (record w { to_editor = rest }) good (λ i. record (model_state_of w) { to_editor = ap modeled_messages waits i }) refl
  take_good w (Some m ∷ rest) waits good =
      let queue : List MessageToEditor = m ∷ modeled_messages rest in
      record {
        kept = take_kept unit (model_state_of w) queue good.kept (subst (All (AnswerFits unit w.editor.requested)) (ap modeled_messages waits) good.kept.answered);
        latest = good.latest;
        published = good.published;
        waiting = good.waiting;
        all = good.all;
        are_made_for_documents = good.are_made_for_documents;
        pending = good.pending;
      }

  -- ---- all turns

  turn_good : (w : EditorAndServer) (turn : ExchangeTurn) (new : EditorAndServer) → Good w → TurnMayLeadTo w turn new → Good new
  turn_good w (editor_moves move) new good (done, announced, may, is) = subst Good (sym is) (move_good w move done announced good may)
  turn_good w editor_sends_unmodeled_message new good is = subst Good (sym is) (says_good w good)
  turn_good w server_takes_message new good takes = serve_good w w.to_server new refl good takes
  turn_good w editor_takes_message new good is = subst Good (sym is) (take_good w w.to_editor refl good)

  turns_good : (turns : List ExchangeTurn) (w new : EditorAndServer) → Good w → IsCourseOfTurns w turns new → Good new
  turns_good [] w new good is = subst Good (sym is) good
  turns_good (turn ∷ turns) w new good (between, happens, lead) = turns_good turns between new (turn_good w turn between good happens) lead

  first_good : Good (initial_editor_and_server unit)
  first_good =
      record {
        kept = (start_kept unit).0;
        latest = (start_kept unit).1;
        published = [];
        waiting = [];
        all = refl;
        are_made_for_documents = tt;
        pending = refl;
      }

  holds_with : (w : EditorAndServer) → Good w → GuaranteesHoldForEditorAndServer w
  holds_with w good =
      record {
        holds = record { applied = good.kept.applied; made = good.kept.made; latest_are_up_to_date = λ nothing_waits. up_to_date unit (model_state_of w) (good.kept, good.latest) (ap notifications_in_queue nothing_waits) };
        latest = up_to_date unit (model_state_of w) (good.kept, good.latest);
        mirrors = good.kept.mirror;
        published = good.published;
        waiting = good.waiting;
        all = good.all;
        are_made_for_documents = good.are_made_for_documents;
        unpublished_are_queued = pending_named w.held (modeled_messages w.to_server) good.waiting good.pending;
      }

pub guarantees_hold_for_every_editor : (unit : Unit) (turns : List ExchangeTurn) (w : EditorAndServer) → IsCourseOfTurns (initial_editor_and_server unit) turns w → GuaranteesHoldForEditorAndServer w
guarantees_hold_for_every_editor unit turns w lead = holds_with unit w (turns_good unit turns (initial_editor_and_server unit) w (first_good unit) lead)
