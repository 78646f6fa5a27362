-- Extends a course by one event, and derives the results of a list of events from a course.
-- `course_conversed` proves by cases of the event that the exchanged contents are a conversation
-- (`IsConversation`). A step whose allocation fails keeps the results and the exchanged contents
-- (`HaveSameHistory`), so these claims hold for the events before that step.
use Rattle.std.proofs.Common.{◌≡◌, ◌∙◌, ℕ, ◌+◌, ◌<◌, List, [], ◌∷◌, ◌++◌, length, take, get_or, map, refl, sym, ap, subst, inl, inr}
use Rattle.std.proofs.lemmas.List.{map-append, take_more, append-nil, append_assoc}
use Rattle.ob0_text.specs.declared.position_types.Unit.{Unit}
use Rattle.ob0_rpc.specs.declared.client_capabilities.ClientFeatures.{ClientFeatures}
use Rattle.ob0_session_server.specs.Answers as server
use Rattle.ob0_session_server.specs.Answers.{ServerState, state_after_initialize, IsConversation}
use Rattle.ob0_world.proofs.Conversing.{conversation_then, answered_once}
use Rattle.ob0_world_editor.specs.InitializeRequest.{client_features_for_unit}
use Rattle.ob0_world.specs.declared.events.Event as event
use Rattle.ob0_world.specs.declared.faults.PlayFault.{PlayFault}
use Rattle.ob0_world.specs.declared.play_results.Played as played
use Rattle.ob0_world_rules.specs.ClientAndServer.{ClientAndServer, initial_client_and_server}
use Rattle.ob0_world_rules.specs.Events.{Event, editor_acts, serve, take_message, IsCourse}
use Rattle.ob0_world_rules.specs.Headline.{GuaranteesHoldForEvents}
use Rattle.ob0_world_rules.specs.PublicationsAreInOrder.{PublicationsFollowAnnouncements}
use Rattle.ob0_world_rules.proofs.ModelEditor.{guarantees_hold_in_every_interleaving, publications_are_in_order}
use Rattle.ob0_world_rules.proofs.CourseIsDetermined.{course_is_determined}
use Rattle.ob0_world.specs.ModelValues.{model_event_of, played_edits, played_publications}
use Rattle.ob0_world.specs.Worlds.{Wire, Connection, IsInitialConnection, SessionTakesFirstContent, EditorTakesFirstContent, AppendsAtMostOneContent, EventChangesWire, ConnectionSteps, IsConnectionCourse, ResultsMatchModel, ContentsMatchWire, IsResultOfPlaying, IsFaultOfPlaying, HaveSameHistory}

-- ---- one event more

connection_push : (begin : Connection) (events : List Event) (between : Connection) (e : Event) (new : Connection) → IsConnectionCourse begin events between → ConnectionSteps between e new → IsConnectionCourse begin (events ++ e ∷ []) new
connection_push begin [] between e new is step = (new, subst (λ (x : Connection). ConnectionSteps x e new) is step, refl)
connection_push begin (first ∷ events) between e new (next, made, rest) step = (next, made, connection_push next events between e new rest step)

pub course_more : (begin : Connection) (events : List event.Event) (i : ℕ) (e : event.Event) (between : Connection) (new : Connection) → i < length events → e ≡ get_or events i e → IsConnectionCourse begin (map model_event_of (take i events)) between
    → ConnectionSteps between (model_event_of e) new → IsConnectionCourse begin (map model_event_of (take (i + 1) events)) new
course_more begin events i e between new within is course step =
    subst (λ es. IsConnectionCourse begin es new)
    (sym (ap (map model_event_of) (take_more events i e within) ∙ map-append model_event_of (take i events) (get_or events i e ∷ [])))
    (connection_push begin (map model_event_of (take i events)) between (model_event_of (get_or events i e)) new course (subst (λ x. ConnectionSteps between (model_event_of x) new) is step))

model_course : (begin : Connection) (events : List Event) (end : Connection) → IsConnectionCourse begin events end → IsCourse begin.model events end.model
model_course begin [] end is = ap (λ (w : Connection). w.model) is
model_course begin (e ∷ events) end (between, step, rest) = (between.model, step.happens, model_course between events end rest)

-- ---- the session's conversation

-- Everything that has passed is a conversation of a session from its beginning.
pub Conversed : Wire → Type 0
Conversed w = IsConversation server.initial_server_state w.taken (w.got ++ w.to_editor) w.session

pub takes_conversed : (q : List (List ℕ)) (old new : Wire) → SessionTakesFirstContent q old new → Conversed old → Conversed new
unfolding Conversed
takes_conversed [] old new is h = subst Conversed (sym is) h
takes_conversed (content ∷ rest) old new (after, sent, answers, is) h =
    let more = conversation_then server.initial_server_state old.taken (old.got ++ old.to_editor) old.session (content ∷ []) sent after h (answered_once old.session content sent after answers) in
    subst Conversed (sym is) (subst (λ x. IsConversation server.initial_server_state (old.taken ++ content ∷ []) x after) (append_assoc old.got old.to_editor sent) more)

pub gets_conversed : (q : List (List ℕ)) (old new : Wire) → old.to_editor ≡ q → EditorTakesFirstContent q old new → Conversed old → Conversed new
unfolding Conversed
gets_conversed [] old new waits is h = subst Conversed (sym is) h
gets_conversed (content ∷ rest) old new waits is h =
    subst Conversed (sym is) (subst (λ x. IsConversation server.initial_server_state old.taken x old.session) (ap (λ x. old.got ++ x) waits ∙ sym (append_assoc old.got (content ∷ []) rest)) h)

writes_conversed : (old new : Wire) → AppendsAtMostOneContent old new → Conversed old → Conversed new
unfolding Conversed
writes_conversed old new (content, is) h = subst Conversed (sym is) h

-- Contents that the editor writes don't change the conversation, since they still wait.
pub written_conversed : (wire : Wire) (contents : List (List ℕ)) → Conversed wire → Conversed (record wire { to_server = wire.to_server ++ contents })
unfolding Conversed
written_conversed wire contents h = h

pub initialized_conversed : (client : ClientFeatures) (taken got : List (List ℕ)) → IsConversation server.initial_server_state taken got (state_after_initialize client) → Conversed (record { session = state_after_initialize client; taken = taken; to_server = []; got = got; to_editor = [] })
unfolding Conversed
initialized_conversed client taken got h = subst (λ sent. IsConversation server.initial_server_state taken sent (state_after_initialize client)) (sym (append-nil got)) h

pub as_conversation : (wire : Wire) → Conversed wire → IsConversation server.initial_server_state wire.taken (wire.got ++ wire.to_editor) wire.session
unfolding Conversed
as_conversation wire h = h

moved_conversed : (e : Event) (old new : Wire) → EventChangesWire e old new → Conversed old → Conversed new
moved_conversed (editor_acts act) old new moves h = writes_conversed old new moves h
moved_conversed serve old new moves h = takes_conversed old.to_server old new moves h
moved_conversed take_message old new moves h = gets_conversed old.to_editor old new refl moves h

begins_conversed : (unit : Unit) (w : Connection) → IsInitialConnection unit w → Conversed w.wire
unfolding Conversed
begins_conversed unit w b =
    subst Conversed (sym b.wire)
    (subst (λ x. IsConversation server.initial_server_state (b.content ∷ []) x (state_after_initialize (client_features_for_unit unit))) (sym (append-nil b.replies)) (answered_once server.initial_server_state b.content b.replies (state_after_initialize (client_features_for_unit unit)) b.answers))

course_conversed : (begin : Connection) (events : List Event) (end : Connection) → IsConnectionCourse begin events end → Conversed begin.wire → Conversed end.wire
course_conversed begin [] end is h = subst (λ (w : Connection). Conversed w.wire) (sym is) h
course_conversed begin (e ∷ events) end (between, step, rest) h = course_conversed between events end rest (moved_conversed e begin.wire between.wire step.moves h)

-- ---- the results of a course

headline : (unit : Unit) (events : List event.Event) (w : ClientAndServer) (p : played.Played) → IsCourse (initial_client_and_server unit) (map model_event_of events) w → ResultsMatchModel w p → GuaranteesHoldForEvents unit (map model_event_of events) (played_edits p) (played_publications p)
headline unit events w p course results_match =
    record {
      end = w;
      course = course;
      only = λ other also. course_is_determined (initial_client_and_server unit) (map model_event_of events) other w also course;
      applied_at_end = results_match.0;
      made_at_end = results_match.1;
      holds = guarantees_hold_in_every_interleaving unit (map model_event_of events) w course;
      made_in_order = subst (PublicationsFollowAnnouncements unit (map model_event_of events)) (sym results_match.1) (publications_are_in_order unit (map model_event_of events) w course);
    }

course_begun : (unit : Unit) (begin : Connection) (events : List Event) (end : Connection) → IsInitialConnection unit begin → IsConnectionCourse begin events end → IsCourse (initial_client_and_server unit) events end.model
course_begun unit begin events end begun course = subst (λ w. IsCourse w events end.model) begun.model (model_course begin events end course)

conversation_of : (w : Wire) (p : played.Played) → ContentsMatchWire w p → Conversed w → (after : ServerState) × IsConversation server.initial_server_state (map (λ v. v.items) p.taken.items) (map (λ v. v.items) p.got.items ++ map (λ v. v.items) p.unread.items) after
unfolding Conversed
conversation_of w p contents_match h =
    (w.session, subst (λ (x : Wire). IsConversation server.initial_server_state x.taken (x.got ++ x.to_editor) w.session) (λ i. record w { taken = sym contents_match.0 i; got = sym contents_match.1 i; to_editor = sym contents_match.2 i }) h)

pub plays : (unit : Unit) (events : List event.Event) (begin end : Connection) (p : played.Played) → IsInitialConnection unit begin → IsConnectionCourse begin (map model_event_of events) end → ResultsMatchModel end.model p → ContentsMatchWire end.wire p → IsResultOfPlaying unit events p
plays unit events begin end p begun course results_match contents_match =
    let talked = conversation_of end.wire p contents_match (course_conversed begin (map model_event_of events) end course (begins_conversed unit begin begun)) in
    record {
      guarantees = headline unit events end.model p (course_begun unit begin (map model_event_of events) end begun course) results_match;
      begin = begin;
      begins = begun;
      end = end;
      course = course;
      results_match = results_match;
      contents_match = contents_match;
      after = talked.0;
      conversation = talked.1;
    }

-- If memory runs out before the first event, the code returns no results.
pub plays_nothing : (unit : Unit) (events : List event.Event) (fault : PlayFault) → fault.steps ≡ 0 → played_edits fault.played ≡ [] → played_publications fault.played ≡ [] → fault.played.taken.items ≡ [] → fault.played.got.items ≡ [] → fault.played.unread.items ≡ []
    → IsFaultOfPlaying unit events fault
plays_nothing unit events fault none applied made taken got unread = inr (record { none = none; guarantees = headline unit [] (initial_client_and_server unit) fault.played refl (applied, made); taken = taken; got = got; unread = unread })

pub come_before : (old new : Connection) (p : played.Played) → HaveSameHistory old new → ResultsMatchModel new.model p → ResultsMatchModel old.model p
come_before old new p same results_match = (results_match.0 ∙ same.applied, results_match.1 ∙ same.made)

pub passed_before : (old new : Connection) (p : played.Played) → HaveSameHistory old new → ContentsMatchWire new.wire p → ContentsMatchWire old.wire p
passed_before old new p same contents_match = (contents_match.0 ∙ same.taken, contents_match.1 ∙ same.got, contents_match.2 ∙ same.unread)

-- If memory runs out at the event with this index, the code returns the results of the events before it.
pub plays_before : (unit : Unit) (events : List event.Event) (i : ℕ) (begin w : Connection) (fault : PlayFault) → fault.steps ≡ i → i < length events → IsInitialConnection unit begin → IsConnectionCourse begin (map model_event_of (take i events)) w → ResultsMatchModel w.model fault.played → ContentsMatchWire w.wire fault.played
    → IsFaultOfPlaying unit events fault
plays_before unit events i begin w fault counted within begun course results_match contents_match =
    inl (subst (λ n. (n < length events) × IsResultOfPlaying unit (take n events) fault.played) (sym counted) (within, plays unit (take i events) begin w fault.played begun course results_match contents_match))
