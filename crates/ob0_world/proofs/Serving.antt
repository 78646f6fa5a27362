-- Proves that the server's event, as the code makes it, is the server's event of the model.
use Rattle.std.proofs.Common.{◌≡◌, ◌∙◌, ℕ, ◌+◌, ◌-◌, arith, Bool, List, [], ◌∷◌, ◌++◌, length, Option, Some, None, inl, inr, refl, sym, ap, subst, cond}
use Rattle.std.specs.Prelude.{All, Vec, map, option_map, option_and_then}
use Rattle.std.specs.Option.{option_to_list}
use Rattle.std.specs.declared.alloc.Global.{Global}
use Rattle.std.proofs.lemmas.List.{map-append, length-map, length-append}
use Rattle.std.proofs.lemmas.List.Elements.{All-nil, All-cons, All-head, All-tail}
use Rattle.ob0_text.specs.OpenDocuments.{OpenDocuments}
use Rattle.ob0_session_server.specs.Answers.{ServerState, Answers, AnswersInPhase}
use Rattle.ob0_world_editor.specs.MessagesToServer.{request_number_from_id, message_to_server_in_content, IsMessageToServer}
use Rattle.ob0_world_editor.specs.MessagesToEditor.{message_to_editor_in_content}
use Rattle.ob0_world_editor.specs.declared.applied_edits.Applied as applied
use Rattle.ob0_world_editor.proofs.Hearing.{says_heard}
use Rattle.ob0_world_rules.specs.ClientAndServer.{SentAsk, Editor, MessageToServer, MessageToEditor, PublicationWithText, ClientAndServer}
use Rattle.ob0_world_rules.specs.Events.{serve, ServerTakesFirstMessage}
use Rattle.ob0_world.specs.EventReport as seen
use Rattle.ob0_world.specs.EventReport.{report_on_serve, EventLeadsToWithReport}
use Rattle.ob0_world.specs.declared.play_results.Made as made
use Rattle.ob0_world.specs.ModelValues.{model_publication_of}
use Rattle.ob0_world.specs.Queues.{Contents, bytes_of_contents, messages_to_server_in_contents, messages_to_editor_in_contents, MeansMessageToServer, MeansMessageToEditor, ConnectionInvariant, RunsWithModelEditor, RunsWithModelEditorOrFailed, model_from_fields, wire_from_fields, publication_in_first_message, publication_in_message, publication_in_first_content}
use Rattle.ob0_world.specs.Worlds.{EditorTakesFirstContent, SessionTakesFirstContent}
use Rattle.ob0_world.proofs.Answering.{Served, served, runs_on}
use Rattle.ob0_world.proofs.Waiting.{said_append, said_first, all_appended}

-- If the editor understands all contents by their bytes, all are messages to it.
each_understood : (requested : List SentAsk) (sent : Contents) → All (λ content. (m : MessageToEditor) × (message_to_editor_in_content requested content ≡ Some m)) (bytes_of_contents sent) → All (MeansMessageToEditor requested) sent
each_understood requested [] all = All-nil (MeansMessageToEditor requested)
each_understood requested (c ∷ sent) all =
    All-cons (MeansMessageToEditor requested) c sent (All-head (λ content. (m : MessageToEditor) × (message_to_editor_in_content requested content ≡ Some m)) c.items (bytes_of_contents sent) all)
    (each_understood requested sent (All-tail (λ content. (m : MessageToEditor) × (message_to_editor_in_content requested content ≡ Some m)) c.items (bytes_of_contents sent) all))

-- The publication of the first content is the publication of the first message.
made_as_sent : (held : OpenDocuments) (requested : List SentAsk) (sent : Contents) → All (MeansMessageToEditor requested) sent → publication_in_first_content held requested sent ≡ publication_in_first_message held (messages_to_editor_in_contents requested sent)
made_as_sent held requested [] all = refl
made_as_sent held requested (c ∷ sent) all =
    let first : MeansMessageToEditor requested c = All-head (MeansMessageToEditor requested) c sent all in
    ap (option_and_then (publication_in_message held)) first.1 ∙ ap (publication_in_first_message held) (sym (said_first (message_to_editor_in_content requested) c sent first.0 first.1))

-- A session that replies hasn't failed.
not_failed : (s s' : ServerState) (content : List ℕ) (sent : List (List ℕ)) → RunsWithModelEditorOrFailed s → Answers s content sent s' → RunsWithModelEditor s
not_failed s s' content sent (inl running) answers = running
not_failed s s' content sent (inr over) answers = absurd (subst (λ phase. AnswersInPhase phase s content sent s') over answers)

-- states that the session took the first waiting content, which is a message, and replied to it
pub record ExchangeTurn (e : Editor) (q rest : Contents) (s s' : ServerState) (content : Vec ℕ Global) (sent : Contents) : Type 0 where
  pub message : MessageToServer
  pub says : IsMessageToServer e.requested message content.items
  pub served_so : Served request_number_from_id e.requested message s s' (bytes_of_contents sent)
  pub running : RunsWithModelEditor s'

pub turn : (e : Editor) (q rest r : Contents) (s s' : ServerState) (content : Vec ℕ Global) (sent : Contents) → q ≡ content ∷ rest → ConnectionInvariant e.requested q r s → Answers s content.items (bytes_of_contents sent) s' → ExchangeTurn e q rest s s' content sent
turn e q rest r s s' content sent first sound h =
    let heard_first : MeansMessageToServer e.requested content = All-head (MeansMessageToServer e.requested) content rest (subst (All (MeansMessageToServer e.requested)) first sound.to_server_are_messages) in
    let running : RunsWithModelEditor s = not_failed s s' content.items (bytes_of_contents sent) sound.running h in
    let so : Served request_number_from_id e.requested heard_first.0 s s' (bytes_of_contents sent) = served e.requested heard_first.0 s s' content.items (bytes_of_contents sent) running heard_first.1 h in
    record {
      message = heard_first.0;
      says = heard_first.1;
      served_so = so;
      running = runs_on e.requested heard_first.0 s s' (bytes_of_contents sent) running so;
    }

pub rest_sound : (requested : List SentAsk) (q rest r : Contents) (s s' : ServerState) (content : Vec ℕ Global) → q ≡ content ∷ rest → ConnectionInvariant requested q r s → RunsWithModelEditorOrFailed s' → ConnectionInvariant requested rest r s'
rest_sound requested q rest r s s' content first sound running =
    record { to_server_are_messages = All-tail (MeansMessageToServer requested) content rest (subst (All (MeansMessageToServer requested)) first sound.to_server_are_messages); to_editor_are_messages = sound.to_editor_are_messages; running = running }

pub turn_running : (e : Editor) (q rest : Contents) (s s' : ServerState) (content : Vec ℕ Global) (sent : Contents) → ExchangeTurn e q rest s s' content sent → RunsWithModelEditorOrFailed s'
turn_running e q rest s s' content sent t = inl t.running

pub turn_sound : (e : Editor) (q rest r r' : Contents) (s s' : ServerState) (content : Vec ℕ Global) (sent : Contents) (b : Bool) → q ≡ content ∷ rest → ConnectionInvariant e.requested q r s → ExchangeTurn e q rest s s' content sent → r' ≡ cond b (r ++ sent) r → ConnectionInvariant e.requested rest r' s'
turn_sound e q rest r r' s s' content sent b first sound t grown =
    let rested : ConnectionInvariant e.requested rest r s' = rest_sound e.requested q rest r s s' content first sound (turn_running e q rest s s' content sent t) in
    record {
      to_server_are_messages = rested.to_server_are_messages;
      to_editor_are_messages = all_appended (MeansMessageToEditor e.requested) r r' sent b grown sound.to_editor_are_messages (each_understood e.requested sent t.served_so.message_to_server_in_content.each);
      running = rested.running;
    }

as_list : (o : Option made.Made) (p : Option PublicationWithText) → option_map model_publication_of o ≡ p → map model_publication_of (option_to_list o) ≡ option_to_list p
as_list None p is = ap option_to_list is
as_list (Some m) p is = ap option_to_list is

pub turn_happens : (e : Editor) (q rest r r' : Contents) (s s' : ServerState) (ap_list : List applied.Applied) (md md' : List made.Made) (content : Vec ℕ Global) (sent : Contents) (held : OpenDocuments) (o : Option made.Made) (n : ℕ)
    → q ≡ content ∷ rest → ExchangeTurn e q rest s s' content sent → held ≡ s'.held → option_map model_publication_of o ≡ publication_in_first_content held e.requested sent → r' ≡ r ++ sent → md' ≡ md ++ option_to_list o → n ≡ length sent
    → EventLeadsToWithReport (model_from_fields e q s r ap_list md) serve (seen.served n) (model_from_fields e rest s' r' ap_list md')
turn_happens e q rest r r' s s' ap_list md md' content sent held o n first t here is_made grown more count =
    let w : ClientAndServer = model_from_fields e q s r ap_list md in
    let said : List MessageToEditor = t.served_so.said in
    let all : messages_to_editor_in_contents e.requested sent ≡ said = t.served_so.message_to_server_in_content.all in
    let to_editor_are_messages : All (MeansMessageToEditor e.requested) sent = each_understood e.requested sent t.served_so.message_to_server_in_content.each in
    let is_first : option_map model_publication_of o ≡ publication_in_first_message s'.held said =
    is_made ∙ made_as_sent held e.requested sent to_editor_are_messages ∙ (λ i. publication_in_first_message (here i) (all i)) in
    let waits : messages_to_server_in_contents e.requested q ≡ t.message ∷ messages_to_server_in_contents e.requested rest =
    ap (messages_to_server_in_contents e.requested) first ∙ said_first (message_to_server_in_content e.requested) content rest t.message (says_heard e.requested t.message content.items t.says) in
    let grew : messages_to_editor_in_contents e.requested r' ≡ messages_to_editor_in_contents e.requested r ++ said =
    ap (messages_to_editor_in_contents e.requested) grown ∙ said_append (message_to_editor_in_content e.requested) r sent ∙ ap (λ x. messages_to_editor_in_contents e.requested r ++ x) all in
    let this : ServerTakesFirstMessage w (t.message ∷ messages_to_server_in_contents e.requested rest) (model_from_fields e rest s' r' ap_list md') = (
      said,
      option_to_list (publication_in_first_message s'.held said),
      t.served_so.replies,
      (λ i. record w {
        to_server = messages_to_server_in_contents e.requested rest;
        held = t.served_so.held i;
        to_editor = grew i;
        made = (ap (map model_publication_of) more ∙ map-append model_publication_of md (option_to_list o) ∙ ap (λ x. map model_publication_of md ++ x) (as_list o (publication_in_first_message s'.held said) is_first)) i;
      }),
    ) in
    let many : n ≡ length (messages_to_editor_in_contents e.requested r') - length (messages_to_editor_in_contents e.requested r) =
    count ∙ sym (length-map sent (λ v. v.items)) ∙ t.served_so.message_to_server_in_content.count ∙ sym (ap (λ x. length x - length (messages_to_editor_in_contents e.requested r)) grew ∙ ap (λ x. x - length (messages_to_editor_in_contents e.requested r)) (length-append (messages_to_editor_in_contents e.requested r) said) ∙ less (length (messages_to_editor_in_contents e.requested r)) (length said)) in (
      subst (λ x. ServerTakesFirstMessage w x (model_from_fields e rest s' r' ap_list md')) (sym waits) this,
      ap seen.served many ∙ sym (ap (λ x. report_on_serve x (messages_to_editor_in_contents e.requested r) (messages_to_editor_in_contents e.requested r')) waits),
    )
  where
    less : (a b : ℕ) → (a + b) - a ≡ b
    less a b = omega arith

-- ---- the server is the session

pub turn_taken : (q rest r r' tk tk' gt : Contents) (s s' : ServerState) (content : Vec ℕ Global) (sent : Contents) → q ≡ content ∷ rest → Answers s content.items (bytes_of_contents sent) s' → r' ≡ r ++ sent → tk' ≡ tk ++ content ∷ []
    → SessionTakesFirstContent (bytes_of_contents q) (wire_from_fields s tk q gt r) (wire_from_fields s' tk' rest gt r')
turn_taken q rest r r' tk tk' gt s s' content sent first answered grown taken =
    subst (λ x. SessionTakesFirstContent (bytes_of_contents x) (wire_from_fields s tk q gt r) (wire_from_fields s' tk' rest gt r')) (sym first) (
      s',
      bytes_of_contents sent,
      answered,
      λ i. record (wire_from_fields s' tk' rest gt r') {
        taken = (ap bytes_of_contents taken ∙ map-append (λ v. v.items) tk (content ∷ [])) i;
        to_editor = (ap bytes_of_contents grown ∙ map-append (λ v. v.items) r sent) i;
      },
    )

pub got_first : (s : ServerState) (tk q gt gt' r rest : Contents) (content : Vec ℕ Global) → r ≡ content ∷ rest → gt' ≡ gt ++ content ∷ [] → EditorTakesFirstContent (bytes_of_contents r) (wire_from_fields s tk q gt r) (wire_from_fields s tk q gt' rest)
got_first s tk q gt gt' r rest content first got =
    subst (λ x. EditorTakesFirstContent (bytes_of_contents x) (wire_from_fields s tk q gt r) (wire_from_fields s tk q gt' rest)) (sym first)
    (λ i. record (wire_from_fields s tk q gt' rest) { got = (ap bytes_of_contents got ∙ map-append (λ v. v.items) gt (content ∷ [])) i })
