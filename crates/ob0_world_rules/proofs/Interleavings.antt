-- Proves that each move of an editor and each turn of the server keeps the invariant (`Kept`).
use Rattle.std.proofs.Common.{◌≡◌, ◌∙◌, ℕ, suc, ◌+◌, Bool, true, false, cond, List, [], ◌∷◌, ◌++◌, length, refl, sym, ap, subst, inl, inr}
use Rattle.std.specs.Prelude.{ℤ, fold, All, Option, Some, None, is_some, option_map, ◌==◌}
use Rattle.std.specs.Str.{bytes_eq}
use Rattle.std.specs.Ordering.{nat_cmp}
use Rattle.std.specs.Cmp.Lexicographic.{slice_cmp}
use Rattle.std.specs.FinMap as map_of
use Rattle.std.proofs.lemmas.Option.{same_Some, none-some}
use Rattle.std.proofs.lemmas.List.{append-nil}
use Rattle.std.proofs.lemmas.List.Elements.{All-nil, All-head, All-tail, All-push, All-append, All-cons}
use Rattle.ob0_text.specs.declared.position_types.Unit.{Unit}
use Rattle.ob0_text.specs.OpenDocuments.{OpenDocuments, Document, InStep, OutOfStep, DocumentEvent, Opened, Changed, Lost, Closed, update_document_if_open, documents_after_event, changed_document, document_at}
use Rattle.ob0_text.proofs.EntryLaws.{updated-some, updated-none}
use Rattle.ob0_world_rules.specs.TextEdits.{Replacement}
use Rattle.ob0_world_rules.specs.Asks.{Ask}
use Rattle.ob0_world_rules.specs.Answers.{IsAnswerForDocument}
use Rattle.ob0_world_rules.specs.ClientAndServer.{OpenDocument, SentAsk, ReceivedAnswer, editor_document_with_uri, MessageToServer, notifies, requests, MessageToEditor, publishes, answers, PublicationWithText, ClientAndServer, initial_client_and_server, documents_after_message}
use Rattle.ob0_world_rules.specs.EditorActs.{result_without_messages, result_of_closing_document, result_of_sending_ask, remove_answer_to_request, editor_without_answer}
use Rattle.ob0_world_rules.specs.ServerReplies.{ServerSendsDiagnostics, ServerRepliesToNotification, ServerRepliesToMessage}
use Rattle.ob0_world_rules.specs.Events.{state_after_act, state_after_editor_takes_message, ServerTakesFirstMessage}
use Rattle.ob0_world_rules.specs.EditorMoves.{result_of_opening_given_document}
use Rattle.ob0_world_rules.specs.EveryEditor.{notifications_in_queue}
use Rattle.ob0_world_rules.specs.MirroredDocuments.{documents_after_waiting_messages, in_step_document}
use Rattle.ob0_world_rules.specs.Headline.{PreservesRun, IsCorrectPublication, last_publication, PublicationsAreUpToDate}
use Rattle.ob0_world_rules.specs.Laws.{EditsPreserveRun}
use Rattle.ob0_world_rules.proofs.UriLaws.{get_put, get_removed, same_uri, uri_itself}
use Rattle.ob0_world_rules.proofs.Latest.{IsMadeFor, latest_push}
use Rattle.ob0_world_rules.proofs.Asked.{Known, numbered_push, slice_get_last}
use Rattle.ob0_world_rules.proofs.KeptRuns.{answer_keeps}
use Rattle.ob0_world_rules.proofs.Keeping.{Fits, AnswerFits, HeldFits, HasText, AsksSee, Kept, message_unit, acts_kept, put_mirrors, remove_mirrors, answers_kept}

-- Messages without a notification don't change the server's documents.
quiet_stays : (held : OpenDocuments) (q : List MessageToServer) → notifications_in_queue q ≡ [] → fold documents_after_message held q ≡ held
quiet_stays held [] quiet = refl
quiet_stays held (notifies note ∷ q) quiet = absurd (cc)
quiet_stays held (requests k uri ask ∷ q) quiet = quiet_stays held q quiet

-- ---- the editor's events

module _ (unit : Unit) where
  pub opened_kept : (w : ClientAndServer) (uri text : List ℕ) (version : ℤ) → Kept unit w → Kept unit (state_after_act w (result_of_opening_given_document (record { version = version; text = text; opening = w.editor.openings + 1 }) w.editor uri))
  opened_kept w uri text version kept =
      let d : OpenDocument = record { version = version; text = text; opening = w.editor.openings + 1 } in
      acts_kept unit w (result_of_opening_given_document d w.editor uri) kept (λ k a is. is) refl refl (put_mirrors w uri d kept.mirror) tt (All-nil PreservesRun)

  pub close_kept : (w : ClientAndServer) (uri : List ℕ) → Kept unit w → Kept unit (state_after_act w (result_of_closing_document w.editor uri))
  close_kept w uri kept =
      acts_kept unit w (result_of_closing_document w.editor uri) kept (λ k a is. is) refl refl (remove_mirrors w uri kept.mirror) tt (All-nil PreservesRun)

  pub ask_kept : (w : ClientAndServer) (uri : List ℕ) (ask : Ask) (d : OpenDocument) → editor_document_with_uri w.editor uri ≡ Some d → Kept unit w → Kept unit (state_after_act w (result_of_sending_ask w.editor uri ask d))
  ask_kept w uri ask d is kept =
      let a : SentAsk = record { ask = ask; uri = uri; text = d.text; opening = d.opening; version = d.version } in
      let known : Known (w.editor.requested ++ a ∷ []) (suc (length w.editor.requested)) (HasText (documents_after_waiting_messages w) uri) =
      record {
        requested = a;
        is = slice_get_last w.editor.requested a;
        holds = (d.version, kept.mirror uri ∙ ap (option_map in_step_document) is);
      } in
      acts_kept unit w (result_of_sending_ask w.editor uri ask d) kept (numbered_push w.editor.requested (a ∷ [])) refl refl kept.mirror (known, tt) (All-nil PreservesRun)

  -- An act that sends nothing and changes nothing keeps the invariant.
  pub still_kept : (w : ClientAndServer) → Kept unit w → Kept unit (state_after_act w (result_without_messages w.editor))
  still_kept w kept =
      acts_kept unit w (result_without_messages w.editor) kept (λ k a is. is) refl refl kept.mirror tt (All-nil PreservesRun)

  -- Taking the first message out of the editor's queue keeps the invariant.
  rest_kept : (w : ClientAndServer) (rest : List MessageToEditor) → Kept unit w → All (AnswerFits unit w.editor.requested) rest → Kept unit (record w { to_editor = rest })
  rest_kept w rest kept fit =
      record { counts = kept.counts; holds = kept.holds; mirror = kept.mirror; requested = kept.requested; answered = fit; answers_held = kept.answers_held; applied = kept.applied; made = kept.made }

  -- An answer with edits keeps the run of its request's text.
  editing_result : (asked : List SentAsk) (k : ℕ) (edit : Replacement) (edits : List Replacement) → Known asked k (Fits unit (edit ∷ edits)) → Known asked k (λ text. EditsPreserveRun unit text (edit ∷ edits))
  editing_result asked k edit edits known = record { requested = known.requested; is = known.is; holds = go known.requested.text known.holds }
    where
      go : (text : List ℕ) → Fits unit (edit ∷ edits) text → EditsPreserveRun unit text (edit ∷ edits)
      go text (inl none) = absurd (cc)
      go text (inr keep) = keep

  pub take_kept : (w : ClientAndServer) (queue : List MessageToEditor) → Kept unit w → All (AnswerFits unit w.editor.requested) queue → Kept unit (state_after_editor_takes_message w queue)
  take_kept w [] kept fit = kept
  take_kept w (publishes uri version empty ∷ rest) kept fit = rest_kept w rest kept (All-tail (AnswerFits unit w.editor.requested) (publishes uri version empty) rest fit)
  take_kept w (answers k [] ∷ rest) kept fit = rest_kept w rest kept (All-tail (AnswerFits unit w.editor.requested) (answers k []) rest fit)
  take_kept w (answers k (edit ∷ edits) ∷ rest) kept fit =
      let asked : List SentAsk = w.editor.requested in
      let a : ReceivedAnswer = record { number = k; edits = edit ∷ edits } in
      let known : Known asked k (Fits unit (edit ∷ edits)) = All-head (AnswerFits unit asked) (answers k (edit ∷ edits)) rest fit in
      answers_kept unit w (w.editor.answers ++ a ∷ []) rest kept
      (All-push (HeldFits unit asked) w.editor.answers a kept.answers_held (editing_result asked k edit edits known))
      (All-tail (AnswerFits unit asked) (answers k (edit ∷ edits)) rest fit)

  -- ---- applying

  All-remove_answer_to_request : (P : ReceivedAnswer → Type 0) (k : ℕ) (list : List ReceivedAnswer) → All P list → All P (remove_answer_to_request k list)
  All-remove_answer_to_request P k [] all = all
  All-remove_answer_to_request P k (a ∷ rest) all = go (a.number == k) (All-remove_answer_to_request P k rest (All-tail P a rest all))
    where
      go : (b : Bool) → All P (remove_answer_to_request k rest) → All P (cond b rest (a ∷ remove_answer_to_request k rest))
      go true later = All-tail P a rest all
      go false later = All-cons P a (remove_answer_to_request k rest) (All-head P a rest all) later

  pub without_kept : (w : ClientAndServer) (k : ℕ) → Kept unit w → Kept unit (record w { editor = editor_without_answer w.editor k })
  without_kept w k kept =
      answers_kept unit w (remove_answer_to_request k w.editor.answers) w.to_editor kept (All-remove_answer_to_request (HeldFits unit w.editor.requested) k w.editor.answers kept.answers_held) kept.answered

  -- ---- the server's events

  -- holds if the last publication for each document in step was made for its version and text
  abbrev pub AreLatest : OpenDocuments → List PublicationWithText → Type 0
  AreLatest held made = (uri : List ℕ) (version : ℤ) (text : List ℕ) → document_at held uri ≡ Some (InStep version text) → IsMadeFor version text (last_publication uri made)

  abbrev Others : OpenDocuments → List ℕ → List PublicationWithText → Type 0
  Others held uri made = (q : List ℕ) (version : ℤ) (text : List ℕ) → bytes_eq uri q ≡ false → document_at held q ≡ Some (InStep version text) → IsMadeFor version text (last_publication q made)

  both_answers : {b : Bool} → b ≡ true → b ≡ false → ⊥
  both_answers t f = cc

  apart : (q uri : List ℕ) → bytes_eq uri q ≡ false → bytes_eq q uri ≡ true → ⊥
  apart q uri differ same =
      let itself : bytes_eq uri q ≡ true = subst (λ x. bytes_eq uri x ≡ true) (sym (same_uri q uri same)) (uri_itself uri) in
      both_answers itself differ

  -- The publications are the latest if they are for the document with one uri and for all other documents.
  others_and_this : (held : OpenDocuments) (uri : List ℕ) (made : List PublicationWithText) → Others held uri made
      → ((q : List ℕ) (version : ℤ) (text : List ℕ) → uri ≡ q → document_at held q ≡ Some (InStep version text) → IsMadeFor version text (last_publication q made)) → AreLatest held made
  others_and_this held uri made others this q version text at = go (bytes_eq uri q) refl
    where
      go : (b : Bool) → bytes_eq uri q ≡ b → IsMadeFor version text (last_publication q made)
      go true is = this q version text (same_uri uri q is) at
      go false is = others q version text is at

  publish_latest : (held : OpenDocuments) (uri : List ℕ) (m : PublicationWithText) (made : List PublicationWithText) → m.uri ≡ uri → document_at held uri ≡ Some (InStep m.version m.text) → Others held uri made → AreLatest held (made ++ m ∷ [])
  publish_latest held uri m made named at others q version text found_at =
      subst (IsMadeFor version text) (sym (latest_push q made m)) (go (bytes_eq m.uri q) refl)
    where
      go : (b : Bool) → bytes_eq m.uri q ≡ b → IsMadeFor version text (cond b (Some m) (last_publication q made))
      go true is =
          let same : uri ≡ q = sym named ∙ same_uri m.uri q is in
          let one : InStep m.version m.text ≡ InStep version text = same_Some _ _ (sym at ∙ ap (document_at held) same ∙ found_at) in
          (cc, cc)
      go false is = others q version text (subst (λ u. bytes_eq u q ≡ false) named is) found_at

  -- states that the messages fit their requests, and that the publications among them are right and the latest
  record Sound (asked : List SentAsk) (held : OpenDocuments) (said : List MessageToEditor) (made more : List PublicationWithText) : Type 0 where
    fit : All (AnswerFits unit asked) said
    right : All IsCorrectPublication more
    now : AreLatest held (made ++ more)

  silent : (asked : List SentAsk) (held : OpenDocuments) (made : List PublicationWithText) (said : List MessageToEditor) (more : List PublicationWithText) → said ≡ [] → more ≡ [] → AreLatest held made → Sound asked held said made more
  silent asked held made said more none none_made now =
      subst (λ s. Sound asked held s made more) (sym none)
      (subst (λ m. Sound asked held [] made m) (sym none_made)
      (record { fit = All-nil (AnswerFits unit asked); right = All-nil IsCorrectPublication; now = subst (AreLatest held) (sym (append-nil made)) now }))

  publish_sound : (asked : List SentAsk) (held : OpenDocuments) (uri : List ℕ) (o : Option Document) (said : List MessageToEditor) (made more : List PublicationWithText) → document_at held uri ≡ o → Others held uri made → ServerSendsDiagnostics uri o said more → Sound asked held said made more
  publish_sound asked held uri (Some (InStep version text)) said made more at others (empty, right, is_said, is_made) =
      let m : PublicationWithText = record { uri = uri; version = version; text = text; no_diagnostics = empty } in
      subst (λ s. Sound asked held s made more) (sym is_said)
      (subst (λ ms. Sound asked held (publishes uri (Some version) empty ∷ []) made ms) (sym is_made)
      (record {
        fit = All-push (AnswerFits unit asked) [] (publishes uri (Some version) empty) (All-nil (AnswerFits unit asked)) tt;
        right = All-push IsCorrectPublication [] m (All-nil IsCorrectPublication) right;
        now = publish_latest held uri m made refl at others;
      }))
  publish_sound asked held uri (Some OutOfStep) said made more at others h =
      silent asked held made said more h.0 h.1
      (others_and_this held uri made others (λ q version text same found_at. absurd (let other : OutOfStep ≡ InStep version text = same_Some _ _ (sym at ∙ ap (document_at held) same ∙ found_at) in cc)))
  publish_sound asked held uri None said made more at others h =
      silent asked held made said more h.0 h.1
      (others_and_this held uri made others (λ q version text same found_at. absurd (none-some (InStep version text) (sym at ∙ ap (document_at held) same ∙ found_at))))

  taken_back_fits : (asked : List SentAsk) (uri : List ℕ) (b : Bool) → All (AnswerFits unit asked) (cond b (publishes uri None true ∷ []) [])
  taken_back_fits asked uri true = All-push (AnswerFits unit asked) [] (publishes uri None true) (All-nil (AnswerFits unit asked)) tt
  taken_back_fits asked uri false = All-nil (AnswerFits unit asked)

  put_others : (held : OpenDocuments) (uri : List ℕ) (d : Document) (made : List PublicationWithText) → AreLatest held made → Others (record { unit = held.unit; by_uri = map_of.insert held.by_uri uri d }) uri made
  put_others held uri d made now q version text differ at = go (bytes_eq q uri) refl (sym (get_put held.by_uri uri d q) ∙ at)
    where
      go : (b : Bool) → bytes_eq q uri ≡ b → cond b (Some d) (document_at held q) ≡ Some (InStep version text) → IsMadeFor version text (last_publication q made)
      go true is h = absurd (apart q uri differ is)
      go false is h = now q version text h

  update_others : (held : OpenDocuments) (uri : List ℕ) (f : Document → Document) (made : List PublicationWithText) → AreLatest held made → Others (record { unit = held.unit; by_uri = update_document_if_open held.by_uri uri f }) uri made
  update_others held uri f made now = go (document_at held uri) refl
    where
      go : (o : Option Document) → document_at held uri ≡ o → Others (record { unit = held.unit; by_uri = update_document_if_open held.by_uri uri f }) uri made
      go None is = subst (λ m. Others (record { unit = held.unit; by_uri = m }) uri made) (sym (updated-none held.by_uri uri f is)) (λ q version text differ at. now q version text at)
      go (Some d) is = subst (λ m. Others (record { unit = held.unit; by_uri = m }) uri made) (sym (updated-some held.by_uri uri f d is)) (put_others held uri (f d) made now)

  -- After a document is lost, the publications for the other documents are still the latest.
  lost_latest : (held : OpenDocuments) (uri : List ℕ) (made : List PublicationWithText) → AreLatest held made → AreLatest (documents_after_event held (Lost uri)) made
  lost_latest held uri made now = go (document_at held uri) refl
    where
      go : (o : Option Document) → document_at held uri ≡ o → AreLatest (documents_after_event held (Lost uri)) made
      go None is = subst (λ m. AreLatest (record { unit = held.unit; by_uri = m }) made) (sym (updated-none held.by_uri uri (λ _. OutOfStep) is)) (λ q version text at. now q version text at)
      go (Some d) is =
          subst (λ m. AreLatest (record { unit = held.unit; by_uri = m }) made) (sym (updated-some held.by_uri uri (λ _. OutOfStep) d is))
          (others_and_this (record { unit = held.unit; by_uri = map_of.insert held.by_uri uri OutOfStep }) uri made (put_others held uri OutOfStep made now)
          (λ q version text same at. absurd (there q version text same at)))
        where
          there : (q : List ℕ) (version : ℤ) (text : List ℕ) → uri ≡ q → map_of.get (map_of.insert held.by_uri uri OutOfStep) q ≡ Some (InStep version text) → ⊥
          there q version text same at =
              let put : map_of.get (map_of.insert held.by_uri uri OutOfStep) q ≡ Some OutOfStep =
              get_put held.by_uri uri OutOfStep q ∙ ap (λ b. cond b (Some OutOfStep) (document_at held q)) (subst (λ x. bytes_eq x uri ≡ true) same (uri_itself uri)) in
              let other : OutOfStep ≡ InStep version text = same_Some _ _ (sym put ∙ at) in cc

  remove_latest : (held : OpenDocuments) (uri : List ℕ) (made : List PublicationWithText) → AreLatest held made → AreLatest (documents_after_event held (Closed uri)) made
  remove_latest held uri made now q version text at = go (bytes_eq q uri) (sym (get_removed held.by_uri uri q) ∙ at)
    where
      go : (b : Bool) → cond b None (document_at held q) ≡ Some (InStep version text) → IsMadeFor version text (last_publication q made)
      go true h = absurd (none-some (InStep version text) h)
      go false h = now q version text h

  note_sound : (asked : List SentAsk) (held : OpenDocuments) (note : DocumentEvent) (said : List MessageToEditor) (made more : List PublicationWithText) → AreLatest held made → ServerRepliesToNotification held note said more → Sound asked (documents_after_event held note) said made more
  note_sound asked held (Opened uri version text) said made more now h =
      publish_sound asked (documents_after_event held (Opened uri version text)) uri (document_at (documents_after_event held (Opened uri version text)) uri) said made more refl (put_others held uri (InStep version text) made now) h
  note_sound asked held (Changed uri version how) said made more now h =
      publish_sound asked (documents_after_event held (Changed uri version how)) uri (document_at (documents_after_event held (Changed uri version how)) uri) said made more refl
      (update_others held uri (changed_document held.unit version how) made now) h
  note_sound asked held (Lost uri) said made more now h = silent asked (documents_after_event held (Lost uri)) made said more h.0 h.1 (lost_latest held uri made now)
  note_sound asked held (Closed uri) said made more now h =
      let quiet : Sound asked (documents_after_event held (Closed uri)) [] made more = silent asked (documents_after_event held (Closed uri)) made [] more refl h.1 (remove_latest held uri made now) in
      record {
        fit = subst (All (AnswerFits unit asked)) (sym h.0) (taken_back_fits asked uri (is_some (document_at held uri)));
        right = quiet.right;
        now = quiet.now;
      }

  -- An answer to a request fits the text that the request was about.
  ask_fits : (asked : List SentAsk) (held : OpenDocuments) (k : ℕ) (uri : List ℕ) (ask : Ask) (edits : List Replacement) → held.unit ≡ unit → Known asked k (HasText held uri) → IsAnswerForDocument held.unit (document_at held uri) ask edits
      → Known asked k (Fits unit edits)
  ask_fits asked held k uri ask edits same_unit known may =
      record { requested = known.requested; is = known.is; holds = answer_keeps unit known.requested.text ask edits (subst (λ o. IsAnswerForDocument unit o ask edits) known.holds.1 (subst (λ u. IsAnswerForDocument u (document_at held uri) ask edits) same_unit may)) }

  -- holds if the server has the text of the request when it takes this message
  abbrev Meets : List SentAsk → OpenDocuments → MessageToServer → Type 0
  Meets asked held m = AsksSee asked held (m ∷ [])

  message_sound : (asked : List SentAsk) (held : OpenDocuments) (m : MessageToServer) (said : List MessageToEditor) (made more : List PublicationWithText) → held.unit ≡ unit → Meets asked held m → AreLatest held made → ServerRepliesToMessage held m said more → Sound asked (documents_after_message held m) said made more
  message_sound asked held (notifies note) said made more same_unit meets now h = note_sound asked held note said made more now h
  message_sound asked held (requests k uri ask) said made more same_unit meets now (edits, may, is_said, is_made) =
      let quiet : Sound asked held [] made more = silent asked held made [] more refl is_made now in
      record {
        fit = subst (All (AnswerFits unit asked)) (sym is_said) (All-push (AnswerFits unit asked) [] (answers k edits) (All-nil (AnswerFits unit asked)) (ask_fits asked held k uri ask edits same_unit meets.0 may));
        right = quiet.right;
        now = quiet.now;
      }

  abbrev pub Both : ClientAndServer → Type 0
  Both w = Kept unit w × AreLatest w.held w.made

  -- If the server will have the text of each request in a queue, that holds of the first message, and later of the
  -- rest.
  sees_first : (e : List SentAsk) (held : OpenDocuments) (m : MessageToServer) (rest : List MessageToServer) → AsksSee e held (m ∷ rest) → Meets e held m × AsksSee e (documents_after_message held m) rest
  sees_first e held (notifies note) rest h = (tt, h)
  sees_first e held (requests k uri ask) rest h = ((h.0, tt), h.1)

  pub serve_kept : (w : ClientAndServer) (queue : List MessageToServer) (new : ClientAndServer) → w.to_server ≡ queue → Both w → ServerTakesFirstMessage w queue new → Both new
  serve_kept w [] new is both h = subst Both (sym h) both
  serve_kept w (m ∷ rest) new is (kept, now) (said, more, may, is_new) =
      let asked : List SentAsk = w.editor.requested in
      let see : Meets asked w.held m × AsksSee asked (documents_after_message w.held m) rest = sees_first asked w.held m rest (subst (AsksSee asked w.held) is kept.requested) in
      let sound : Sound asked (documents_after_message w.held m) said w.made more = message_sound asked w.held m said w.made more kept.holds see.0 now may in
      subst Both (sym is_new) (
        record {
          counts = kept.counts;
          holds = message_unit w.held m ∙ kept.holds;
          mirror = subst (λ q. (uri : List ℕ) → document_at (fold documents_after_message w.held q) uri ≡ option_map in_step_document (editor_document_with_uri w.editor uri)) is kept.mirror;
          requested = see.1;
          answered = All-append (AnswerFits unit asked) w.to_editor said kept.answered sound.fit;
          answers_held = kept.answers_held;
          applied = kept.applied;
          made = All-append IsCorrectPublication w.made more kept.made sound.right;
        },
        sound.now,
      )

  -- ---- all events

  -- When the editor takes a message, the server's documents and publications don't change.
  pub take_unmoved : (w : ClientAndServer) (queue : List MessageToEditor) → ((state_after_editor_takes_message w queue).held ≡ w.held) × ((state_after_editor_takes_message w queue).made ≡ w.made)
  take_unmoved w [] = (refl, refl)
  take_unmoved w (m ∷ rest) = (refl, refl)

  nothing_at : {X : Type 0} (q : List ℕ) (x : X) (P : Type 0) → map_of.get (map_of.empty {X = X} {R = slice_cmp nat_cmp}) q ≡ Some x → P
  nothing_at q x P h = absurd (none-some x (sym (map_of.get-empty (slice_cmp nat_cmp) q) ∙ h))

  pub start_kept : Both (initial_client_and_server unit)
  start_kept = (
    record {
      counts = refl;
      holds = refl;
      mirror = λ q. map_of.get-empty (slice_cmp nat_cmp) q ∙ sym (ap (option_map in_step_document) (map_of.get-empty (slice_cmp nat_cmp) q));
      requested = tt;
      answered = All-nil (AnswerFits unit []);
      answers_held = All-nil (HeldFits unit []);
      applied = All-nil PreservesRun;
      made = All-nil IsCorrectPublication;
    },
    λ uri version text at. nothing_at uri (InStep version text) (IsMadeFor version text None) at,
  )

  pub up_to_date : (w : ClientAndServer) → Both w → notifications_in_queue w.to_server ≡ [] → PublicationsAreUpToDate w.editor w.made
  up_to_date w (kept, now) quiet uri d at =
      let held : document_at w.held uri ≡ Some (in_step_document d) = subst (λ held. document_at held uri ≡ Some (in_step_document d)) (quiet_stays w.held w.to_server quiet) (kept.mirror uri ∙ ap (option_map in_step_document) at) in
      now uri d.version d.text held
