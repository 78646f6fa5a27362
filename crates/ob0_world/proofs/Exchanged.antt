-- Proves that each course of the model's editor and a session is also an exchange of an editor that
-- keeps ob0's rules.
use Rattle.std.proofs.Common.{◌≡◌, ◌∙◌, ℕ, zero, suc, ◌+◌, ◌≤◌, Bool, true, false, cond, arith, List, [], ◌∷◌, ◌++◌, map, length, append-nil, get_or, refl, sym, ap, subst, inl, inr}
use Rattle.std.specs.Prelude.{◌==◌, Some, None, Ok, codes, option_and_then, slice_get}
use Rattle.std.specs.Option.{option_to_list}
use Rattle.serde_json.specs.Data.{Data, null, boolean, number, string, array, object, unsigned, negative, float}
use Rattle.ob0_text.specs.declared.position_types.Position.{Position}
use Rattle.ob0_text.specs.declared.position_types.Unit.{Unit}
use Rattle.ob0_text.specs.declared.position_types.Unit.TheVariants.{Utf16, Utf8}
use Rattle.ob0_rpc.specs.Messages.{request}
use Rattle.ob0_rpc.specs.Requests as asked
use Rattle.ob0_rpc.specs.Requests.{request_by_method}
use Rattle.ob0_session_server.specs.Answers as server
use Rattle.ob0_session_server.specs.Answers.{state_after_initialize}
use Rattle.ob0_session_server.specs.ClientUnits.{unit_for_client}
use Rattle.ob0_world_editor.specs.InitializeRequest.{client_features_for_unit}
use Rattle.ob0_world_editor.specs.MessagesToServer.{request_number_from_id, client_request_for_ask, IsRequestWithId, IsMessageToServer}
use Rattle.ob0_world_editor.specs.Shapes.{method_of_ask, empty_range_at}
use Rattle.ob0_world_editor.specs.MessagesToEditor.{message_to_editor_in_content, message_to_editor_given_numbering}
use Rattle.ob0_world_rules.specs.Asks.{Ask, rename, inline_here, inline_all, format}
use Rattle.ob0_world_rules.specs.ClientAndServer.{SentAsk, Editor, sent_ask_with_number, MessageToServer, notifies, requests, MessageToEditor, publishes, answers, AppliedEdit, ClientAndServer, initial_client_and_server}
use Rattle.ob0_world_rules.specs.EditorActs.{EditorAct, ActResult, result_without_messages, act_result, editor_after_message}
use Rattle.ob0_world_rules.specs.Events.{Event, editor_acts, serve, take_message, state_after_editor_takes_message, ServerTakesFirstMessage}
use Rattle.ob0_world_rules.specs.EveryEditor.{ExchangeTurn, editor_moves, server_takes_message, editor_takes_message}
use Rattle.ob0_world_rules.specs.PublicationsAreInOrder.{AnnouncedDocument, documents_announced_by_sent_messages}
use Rattle.ob0_world_rules.proofs.ModelEditor.{IsMove, act_may, knows_event}
use Rattle.ob0_world.specs.Worlds.{Wire, Connection, SessionTakesFirstContent, EditorTakesFirstContent, EventChangesWire, AreMessagesToServer, ConnectionSteps, IsConnectionCourse}
use Rattle.ob0_world.specs.Exchanges.{SentRequestId, number_id, ask_number_of_request_id, ask_number_of_json_id, AssignsAskIds, Exchange, IsInitialExchange, is_before, IsCodeActionRequest, IsRequestForAsk, ClientAcceptsLiteralActions, ClientAcceptsEditsForAsk, IsMessageToSession, AreMessagesToSession, message_to_editor_given_ids, editor_after_optional_message, EditorReadsFirstContent, wire_with_queued_contents, IsExchangeCourse, EveryConnectionCourseIsExchange}
use Rattle.ob0_world.proofs.Conversing.{answered_once}
use Rattle.std.proofs.lemmas.Bool.{eqb-true, eqb-false}
use Rattle.std.proofs.lemmas.Option.{same_Some, none-some}
use Rattle.ob0_rpc.specs.declared.client_capabilities.ClientFeatures.{ClientFeatures}
use Rattle.ob0_world_rules.proofs.PerformsAct.{of_each}
use Rattle.ob0_world_rules.proofs.SameDocument.{Knows, knows_first}
use Rattle.ob0_world.specs.Queues.{RunsWithModelEditor}
use Rattle.ob0_world.proofs.Answering.{served, runs_on}
use Rattle.ob0_world.proofs.Waiting.{read_still}

-- ---- the ids of the model's editor

-- returns the ids of asks that have their numbers as ids; the first has this number
abbrev ids_from : ℕ → List SentAsk → List SentRequestId
ids_from n [] = []
ids_from n (a ∷ list) = record { id = number_id n; ask = Some n } ∷ ids_from (suc n) list

ids_push : (list : List SentAsk) (n : ℕ) (a : SentAsk) → ids_from n (list ++ a ∷ []) ≡ ids_from n list ++ record { id = number_id (n + length list); ask = Some (n + length list) } ∷ []
ids_push [] n a = ap (λ m. record { id = number_id m; ask = Some m } ∷ []) (omega arith)
ids_push (b ∷ list) n a =
    ap (λ ids. record { id = number_id n; ask = Some n } ∷ ids)
    (ids_push list (suc n) a ∙ ap (λ m. ids_from (suc n) list ++ record { id = number_id m; ask = Some m } ∷ []) (omega arith))

no_id : (list : List SentAsk) (n m : ℕ) → n + length list ≤ m → ask_number_of_request_id (ids_from n list) (number_id m) ≡ None
no_id [] n m h = refl
no_id (a ∷ list) n m h = go (n == m) refl (no_id list (suc n) m (omega (arith, h)))
  where
    go : (b : Bool) → (n == m) ≡ b → ask_number_of_request_id (ids_from (suc n) list) (number_id m) ≡ None → cond b (Some (Some n)) (ask_number_of_request_id (ids_from (suc n) list) (number_id m)) ≡ None
    go true is later = let same : n ≡ m = eqb-true n m is in absurd (omega (arith, same, h))
    go false is later = later

has_id : (list : List SentAsk) (n i : ℕ) (a : SentAsk) → slice_get list i ≡ Some a → ask_number_of_request_id (ids_from n list) (number_id (n + i)) ≡ Some (Some (n + i))
has_id [] n i a h = absurd (none-some a h)
has_id (b ∷ list) n zero a h = go (n == n + zero) refl
  where
    here : n ≡ n + zero
    here = omega arith

    go : (b : Bool) → (n == n + zero) ≡ b → cond b (Some (Some n)) (ask_number_of_request_id (ids_from (suc n) list) (number_id (n + zero))) ≡ Some (Some (n + zero))
    go true is = ap (λ m. Some (Some m)) here
    go false is = absurd (eqb-false n (n + zero) is here)
has_id (b ∷ list) n (suc i) a h = go (n == n + suc i) refl (has_id list (suc n) i a h)
  where
    on : suc n + i ≡ n + suc i
    on = omega arith

    go : (b : Bool) → (n == n + suc i) ≡ b → ask_number_of_request_id (ids_from (suc n) list) (number_id (suc n + i)) ≡ Some (Some (suc n + i)) → cond b (Some (Some n)) (ask_number_of_request_id (ids_from (suc n) list) (number_id (n + suc i))) ≡ Some (Some (n + suc i))
    go true is later = let same : n ≡ n + suc i = eqb-true n (n + suc i) is in absurd (omega (arith, same))
    go false is later = subst (λ m. ask_number_of_request_id (ids_from (suc n) list) (number_id m) ≡ Some (Some m)) on later

-- The number of an ask is its id.
numbered_so : (requested : List SentAsk) (k : ℕ) (a : SentAsk) → sent_ask_with_number requested k ≡ Some a → ask_number_of_json_id (ids_from 1 requested) (number (unsigned k)) ≡ Some k
numbered_so requested zero a h = absurd (none-some a h)
numbered_so requested (suc k) a h = ap (option_and_then (λ ask. ask)) (subst (λ m. ask_number_of_request_id (ids_from 1 requested) (number_id m) ≡ Some (Some m)) (omega arith) (has_id requested 1 k a h))

-- A JSON number that is the number of an ask is read as that ask's id.
named_so : (requested : List SentAsk) (d : Data) (k : ℕ) (a : SentAsk) → sent_ask_with_number requested k ≡ Some a → request_number_from_id d ≡ Some k → ask_number_of_json_id (ids_from 1 requested) d ≡ Some k
named_so requested (number (unsigned n)) k a h is =
    let same : n ≡ k = same_Some n k is in
    subst (λ j. ask_number_of_json_id (ids_from 1 requested) (number (unsigned n)) ≡ Some j) same (numbered_so requested n a (subst (λ j. sent_ask_with_number requested j ≡ Some a) (sym same) h))
named_so requested (number (negative z)) k a h is = absurd (none-some k is)
named_so requested (number (float x)) k a h is = absurd (none-some k is)
named_so requested null k a h is = absurd (none-some k is)
named_so requested (boolean b) k a h is = absurd (none-some k is)
named_so requested (string text) k a h is = absurd (none-some k is)
named_so requested (array ds) k a h is = absurd (none-some k is)
named_so requested (object ms) k a h is = absurd (none-some k is)

-- states that some turns may lead from x to this editor, this wire and these applied edits
record ComesTo (x : Exchange) (editor : Editor) (wire : Wire) (applied : List AppliedEdit) : Type 0 where
  turns : List ExchangeTurn
  announced : List AnnouncedDocument
  leads : IsExchangeCourse x turns (record { editor = editor; ids = ids_from 1 editor.requested; wire = wire; announced = announced; applied = applied })

abbrev exchange_of : Connection → List AnnouncedDocument → Exchange
exchange_of c announced = record { editor = c.model.editor; ids = ids_from 1 c.model.editor.requested; wire = c.wire; announced = announced; applied = c.model.applied }

-- ---- what the editor writes

none_said : (requested : List SentAsk) (contents : List (List ℕ)) → AreMessagesToServer requested [] contents → contents ≡ []
none_said requested [] h = refl
none_said requested (c ∷ contents) h = absurd h

-- If all contents say all messages, the last contents say the last messages.
last_say : (requested now : List SentAsk) (messages more : List MessageToServer) (contents others : List (List ℕ)) → AreMessagesToServer requested messages contents → AreMessagesToServer now (messages ++ more) (contents ++ others) → AreMessagesToServer now more others
last_say requested now [] more [] others h k = k
last_say requested now (m ∷ messages) more (c ∷ contents) others h k = last_say requested now messages more contents others h.1 k.1
last_say requested now [] more (c ∷ contents) others h k = absurd h
last_say requested now (m ∷ messages) more [] others h k = absurd h

own_first : (b : Bool) → {position : Position} → cond b position position ≡ position
own_first true = refl
own_first false = refl

-- An ask to inline sends a request for the actions at an empty range, of all kinds.
inline_said : (id : Data) (uri : List ℕ) (position : Position) (ask : Ask) (content : List ℕ) → method_of_ask ask ≡ codes "textDocument/codeAction" → client_request_for_ask uri ask ≡ asked.code_action uri (empty_range_at position) None → IsRequestWithId id uri ask content
    → IsCodeActionRequest id uri position content
inline_said id uri position ask content method call is =
    record {
      json = is.json;
      reads = is.reads;
      params = is.params;
      means = is.means ∙ ap (λ m. request id m is.params) method;
      range = empty_range_at position;
      only = None;
      calls = sym (ap (λ m. request_by_method m is.params) method) ∙ is.calls ∙ ap Ok call;
      from = own_first (is_before position position);
      allowed = refl;
    }

request_said : (id : Data) (uri : List ℕ) (ask : Ask) (content : List ℕ) → IsRequestWithId id uri ask content → IsRequestForAsk id uri ask content
request_said id uri (rename position name) content is = is
request_said id uri (inline_here position) content is = inline_said id uri position (inline_here position) content refl refl is
request_said id uri (inline_all position) content is = inline_said id uri position (inline_all position) content refl refl is
request_said id uri (format indent) content is = is

module _ (client : ClientFeatures) (takes : ClientAcceptsLiteralActions client) where
  takes_ask : (ask : Ask) → ClientAcceptsEditsForAsk client ask
  takes_ask (rename position name) = tt
  takes_ask (inline_here position) = takes
  takes_ask (inline_all position) = takes
  takes_ask (format indent) = tt

  session_said : (requested : List SentAsk) (m : MessageToServer) (content : List ℕ) → IsMessageToServer requested m content → IsMessageToSession client (ids_from 1 requested) requested m content
  session_said requested (notifies note) content h = h
  session_said requested (requests k uri ask) content (is, of) =
      (number (unsigned k), request_said (number (unsigned k)) uri ask content is, record { numbered = numbered_so requested k of.sent of.is; is = of }, takes_ask ask)

  each_says : (requested : List SentAsk) (messages : List MessageToServer) (contents : List (List ℕ)) → AreMessagesToServer requested messages contents → AreMessagesToSession client (ids_from 1 requested) requested (map Some messages) contents
  each_says requested [] [] h = tt
  each_says requested (m ∷ messages) (c ∷ contents) h = (session_said requested m c h.0, each_says requested messages contents h.1)
  each_says requested [] (c ∷ contents) h = absurd h
  each_says requested (m ∷ messages) [] h = absurd h

-- The asks that an act sends have their numbers as ids.
sent_names : (e : Editor) (act : EditorAct) → AssignsAskIds (ids_from 1 e.requested) (act_result e act).sent (ids_from 1 (act_result e act).editor.requested)
sent_names e act =
    of_each e (λ done. AssignsAskIds (ids_from 1 e.requested) done.sent (ids_from 1 done.editor.requested))
    (record {
      still = refl;
      opened = λ uri text none. refl;
      changed = λ uri d how text at makes. refl;
      closed = λ uri d at. refl;
      asked = λ uri ask d at. (
        number_id (suc (length e.requested)),
        no_id e.requested 1 (suc (length e.requested)) (omega arith),
        ids_push e.requested 1 _ ∙ ap (λ m. ids_from 1 e.requested ++ record { id = number_id m; ask = Some m } ∷ []) (omega arith),
      );
      made = λ k edits a d text held numbered same makes. refl;
      dropped = λ k. refl;
    })
    act

-- ---- what is needed of a connection

-- states that a connection's contents are its messages, its session runs, and its editor knows its asks
record Goes (c : Connection) : Type 0 where
  says : AreMessagesToServer c.model.editor.requested c.model.to_server c.wire.to_server
  means : map (message_to_editor_in_content c.model.editor.requested) c.wire.to_editor ≡ map Some c.model.to_editor
  running : RunsWithModelEditor c.wire.session
  knows : Knows c.model.editor

taken_running : (requested : List SentAsk) (q : List MessageToServer) (contents : List (List ℕ)) (old new : Wire) → AreMessagesToServer requested q contents → SessionTakesFirstContent contents old new → RunsWithModelEditor old.session → RunsWithModelEditor new.session
taken_running requested [] [] old new says is running = subst (λ (v : Wire). RunsWithModelEditor v.session) (sym is) running
taken_running requested (m ∷ q) (c ∷ rest) old new says (after, sent, answer, is) running =
    subst (λ (v : Wire). RunsWithModelEditor v.session) (sym is) (runs_on requested m old.session after sent running (served requested m old.session after c sent running says.0 answer))
taken_running requested [] (c ∷ rest) old new says takes running = absurd says
taken_running requested (m ∷ q) [] old new says takes running = absurd says

got_running : (contents : List (List ℕ)) (old new : Wire) → EditorTakesFirstContent contents old new → RunsWithModelEditor old.session → RunsWithModelEditor new.session
got_running [] old new is running = subst (λ (v : Wire). RunsWithModelEditor v.session) (sym is) running
got_running (c ∷ rest) old new is running = subst (λ (v : Wire). RunsWithModelEditor v.session) (sym is) running

event_running : (event : Event) (old new : Connection) → Goes old → EventChangesWire event old.wire new.wire → RunsWithModelEditor new.wire.session
event_running (editor_acts act) old new goes (content, is) = subst (λ (v : Wire). RunsWithModelEditor v.session) (sym is) goes.running
event_running serve old new goes takes = taken_running old.model.editor.requested old.model.to_server old.wire.to_server old.wire new.wire goes.says takes goes.running
event_running take_message old new goes gets = got_running old.wire.to_editor old.wire new.wire gets goes.running

event_goes : (event : Event) (old new : Connection) → Goes old → ConnectionSteps old event new → Goes new
event_goes event old new goes step =
    record { says = step.tied.says; means = step.tied.means; running = event_running event old new goes step.moves; knows = knows_event old.model event new.model goes.knows step.happens }

-- ---- each event

module _ (c : Connection) (announced : List AnnouncedDocument) (goes : Goes c) where
  abbrev Comes : Editor → Wire → List AppliedEdit → Type 0
  Comes editor wire applied = ComesTo (exchange_of c announced) editor wire applied

  still : (contents : List (List ℕ)) (done : ActResult) → done ≡ result_without_messages c.model.editor → AreMessagesToServer done.editor.requested done.sent contents → Comes done.editor (wire_with_queued_contents c.wire contents) (c.model.applied ++ done.applied)
  still contents done is says =
      let none : contents ≡ [] = none_said c.model.editor.requested contents (subst (λ (d : ActResult). AreMessagesToServer d.editor.requested d.sent contents) is says) in
      record {
        turns = [];
        announced = announced;
        leads = λ i. record (exchange_of c announced) {
          editor = (is i).editor;
          ids = ids_from 1 (is i).editor.requested;
          wire = record c.wire { to_server = (ap (λ cs. c.wire.to_server ++ cs) none ∙ append-nil c.wire.to_server) i };
          applied = (ap (λ (d : ActResult). c.model.applied ++ d.applied) is ∙ append-nil c.model.applied) i;
        };
      }

  act_comes : (contents : List (List ℕ)) (act : EditorAct) → AreMessagesToServer (act_result c.model.editor act).editor.requested (act_result c.model.editor act).sent contents
      → Comes (act_result c.model.editor act).editor (wire_with_queued_contents c.wire contents) (c.model.applied ++ (act_result c.model.editor act).applied)
  act_comes contents act say = go (act_may c.model.editor act goes.knows)
    where
      go : IsMove c.model.editor (act_result c.model.editor act)
          → Comes (act_result c.model.editor act).editor (wire_with_queued_contents c.wire contents) (c.model.applied ++ (act_result c.model.editor act).applied)
      go (inl is) = still contents (act_result c.model.editor act) is say
      go (inr (move, may)) =
          let done : ActResult = act_result c.model.editor act in
          let more : List AnnouncedDocument = documents_announced_by_sent_messages done.editor done.sent in
          let ids : List SentRequestId = ids_from 1 done.editor.requested in
          let y : Exchange = record { editor = done.editor; ids = ids; wire = wire_with_queued_contents c.wire contents; announced = announced ++ more; applied = c.model.applied ++ done.applied } in
          record {
            turns = editor_moves move ∷ [];
            announced = announced ++ more;
            leads = (
              y,
              (
                done,
                more,
                ids,
                contents,
                may,
                sent_names c.model.editor act,
                each_says c.wire.session.client goes.running.2 done.editor.requested done.sent contents say,
                refl,
              ),
              refl,
            );
          }

serve_same : (w : ClientAndServer) (queue : List MessageToServer) (new : ClientAndServer) → ServerTakesFirstMessage w queue new → (new.editor ≡ w.editor) × (new.applied ≡ w.applied)
serve_same w [] new is = (ap (λ (v : ClientAndServer). v.editor) is, ap (λ (v : ClientAndServer). v.applied) is)
serve_same w (m ∷ rest) new (said, made, replies, is) = (ap (λ (v : ClientAndServer). v.editor) is, ap (λ (v : ClientAndServer). v.applied) is)

reads_asks : (e : Editor) (m : MessageToEditor) → (editor_after_message e m).requested ≡ e.requested
reads_asks e (publishes uri version empty) = refl
reads_asks e (answers k []) = refl
reads_asks e (answers k (edit ∷ edits)) = refl

-- An answer is read the same if the ids of asks are their numbers.
read_so_too : (requested : List SentAsk) (content : List ℕ) (m : MessageToEditor) → message_to_editor_in_content requested content ≡ Some m → message_to_editor_given_ids (ids_from 1 requested) requested content ≡ Some m
read_so_too requested content m h = subst (λ asks. message_to_editor_given_numbering (ask_number_of_json_id (ids_from 1 requested)) asks content ≡ Some m) (append-nil requested) (read_still request_number_from_id (ask_number_of_json_id (ids_from 1 requested)) requested [] (named_so requested) content m h)

take_comes : (c : Connection) (announced : List AnnouncedDocument) (wire : Wire) (queue : List MessageToEditor) (contents : List (List ℕ)) → c.wire.to_editor ≡ contents
    → map (message_to_editor_in_content c.model.editor.requested) contents ≡ map Some queue → EditorTakesFirstContent contents c.wire wire
    → ComesTo (exchange_of c announced) (state_after_editor_takes_message c.model queue).editor wire (state_after_editor_takes_message c.model queue).applied
take_comes c announced wire [] [] waits means is = record { turns = []; announced = announced; leads = λ i. record (exchange_of c announced) { wire = is i } }
take_comes c announced wire (m ∷ queue) (content ∷ rest) waits means is =
    let e : Editor = c.model.editor in
    let first : message_to_editor_in_content e.requested content ≡ Some m = ap (λ os. get_or os 0 None) means in
    let so : message_to_editor_given_ids (ids_from 1 e.requested) e.requested content ≡ Some m = read_so_too e.requested content m first in
    let x : Exchange = exchange_of c announced in
    let y : Exchange = record { editor = editor_after_message e m; ids = ids_from 1 (editor_after_message e m).requested; wire = wire; announced = announced; applied = c.model.applied } in
    let gets : EditorReadsFirstContent (content ∷ rest) x y = λ i. record x { editor = editor_after_optional_message x.editor (sym so i); ids = ids_from 1 (reads_asks e m i); wire = is i } in
    record {
      turns = editor_takes_message ∷ [];
      announced = announced;
      leads = (y, subst (λ cs. EditorReadsFirstContent cs x y) (sym waits) gets, refl);
    }
take_comes c announced wire [] (content ∷ rest) waits means is = absurd (cc)
take_comes c announced wire (m ∷ queue) [] waits means is = absurd (cc)

event_comes : (event : Event) (old new : Connection) (announced : List AnnouncedDocument) → Goes old → ConnectionSteps old event new → ComesTo (exchange_of old announced) new.model.editor new.wire new.model.applied
event_comes (editor_acts act) old new announced goes step =
    let (content, is) = step.moves in
    let done : ActResult = act_result old.model.editor act in
    let contents : List (List ℕ) = option_to_list content in
    let all : AreMessagesToServer done.editor.requested (old.model.to_server ++ done.sent) (old.wire.to_server ++ contents) =
    subst (λ (v : Wire). AreMessagesToServer done.editor.requested (old.model.to_server ++ done.sent) v.to_server) is
    (subst (λ (w : ClientAndServer). AreMessagesToServer w.editor.requested w.to_server new.wire.to_server) step.happens step.tied.says) in
    subst (λ (w : ClientAndServer). ComesTo (exchange_of old announced) w.editor new.wire w.applied) (sym step.happens)
    (subst (λ v. ComesTo (exchange_of old announced) done.editor v (old.model.applied ++ done.applied)) (sym is)
    (act_comes old announced goes contents act (last_say old.model.editor.requested done.editor.requested old.model.to_server done.sent old.wire.to_server contents goes.says all)))
event_comes serve old new announced goes step =
    let same = serve_same old.model old.model.to_server new.model step.happens in
    let y : Exchange = exchange_of new announced in
    record {
      turns = server_takes_message ∷ [];
      announced = announced;
      leads = (y, (new.wire, step.moves, λ i. record y { editor = same.0 i; ids = ids_from 1 (same.0 i).requested; applied = same.1 i }), refl);
    }
event_comes take_message old new announced goes step =
    subst (λ (w : ClientAndServer). ComesTo (exchange_of old announced) w.editor new.wire w.applied) (sym step.happens)
    (take_comes old announced new.wire old.model.to_editor old.wire.to_editor refl goes.means step.moves)

-- ---- all events

leads_append : (turns more : List ExchangeTurn) (x between y : Exchange) → IsExchangeCourse x turns between → IsExchangeCourse between more y → IsExchangeCourse x (turns ++ more) y
leads_append [] more x between y is leads = subst (λ v. IsExchangeCourse v more y) is leads
leads_append (turn ∷ turns) more x between y (mid, exchanges, rest) leads = (mid, exchanges, leads_append turns more mid between y rest leads)

course_comes : (events : List Event) (begin end : Connection) (announced : List AnnouncedDocument) → Goes begin → IsConnectionCourse begin events end → ComesTo (exchange_of begin announced) end.model.editor end.wire end.model.applied
course_comes [] begin end announced goes is = record { turns = []; announced = announced; leads = ap (λ c. exchange_of c announced) is }
course_comes (event ∷ events) begin end announced goes (between, step, rest) =
    let first : ComesTo (exchange_of begin announced) between.model.editor between.wire between.model.applied = event_comes event begin between announced goes step in
    let more : ComesTo (exchange_of between first.announced) end.model.editor end.wire end.model.applied = course_comes events between end first.announced (event_goes event begin between goes step) rest in
    record {
      turns = first.turns ++ more.turns;
      announced = more.announced;
      leads = leads_append first.turns more.turns (exchange_of begin announced) (exchange_of between first.announced) (exchange_of end more.announced) first.leads more.leads;
    }

same_unit : (unit : Unit) → unit_for_client (client_features_for_unit unit) ≡ unit
same_unit Utf16 = refl
same_unit Utf8 = refl

pub every_connection_course_is_exchange : EveryConnectionCourseIsExchange
every_connection_course_is_exchange unit begin end events b course =
    let wire : Wire = record { session = state_after_initialize (client_features_for_unit unit); taken = b.content ∷ []; to_server = []; got = b.replies; to_editor = [] } in
    let first_goes : Goes (record { model = initial_client_and_server unit; wire = wire }) = record { says = tt; means = refl; running = (refl, refl, refl); knows = knows_first unit } in
    let goes : Goes begin = subst Goes (λ i. record { model = sym b.model i; wire = sym b.wire i }) first_goes in
    let c : ComesTo (exchange_of begin []) end.model.editor end.wire end.model.applied = course_comes events begin end [] goes course in
    let last : Exchange = exchange_of end c.announced in
    let first : IsInitialExchange unit (exchange_of begin []) =
    record {
      client = client_features_for_unit unit;
      counts = same_unit unit;
      taken = b.content ∷ [];
      got = b.replies;
      initialized = answered_once server.initial_server_state b.content b.replies (state_after_initialize (client_features_for_unit unit)) b.answers;
      is = λ i. record { editor = (b.model i).editor; ids = ids_from 1 (b.model i).editor.requested; wire = b.wire i; announced = []; applied = (b.model i).applied };
    } in
    (exchange_of begin [], c.turns, last, first, c.leads, refl, refl, refl)
