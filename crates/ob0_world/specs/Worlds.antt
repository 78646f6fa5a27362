-- Defines the connection of an editor and a session, the world with its steps, and the results of a
-- list of events.
-- Rule: none; used in the contracts of `World`.
use Rattle.std.specs.Prelude.{◌≡◌, ◌<◌, ◌+◌, ◌++◌, ◌⊎◌, ⊤, ℕ, List, [], ◌∷◌, map, take, length, Bool, true, false, Option, Some}
use Rattle.std.specs.Option.{option_to_list}
use Rattle.ob0_text.specs.declared.position_types.Unit.{Unit}
use Rattle.ob0_rpc.specs.Messages.{IsJsonOfContent}
use Rattle.ob0_session_server.specs.Answers as server
use Rattle.ob0_session_server.specs.Answers.{ServerState, state_after_initialize, Answers, IsConversation}
use Rattle.ob0_world_editor.specs.InitializeRequest.{client_features_for_unit, initialize_message}
use Rattle.ob0_world_editor.specs.MessagesToServer.{IsMessageToServer}
use Rattle.ob0_world_editor.specs.MessagesToEditor.{message_to_editor_in_content}
use Rattle.ob0_world_rules.specs.ClientAndServer.{SentAsk, MessageToServer, ClientAndServer, initial_client_and_server}
use Rattle.ob0_world_rules.specs.Events.{Event, editor_acts, serve, take_message, EventLeadsTo}
use Rattle.ob0_world_rules.specs.Headline.{GuaranteesHoldForEvents}
use Rattle.ob0_world.specs.ModelValues.{model_event_of, bytes_of_contents, played_edits, played_publications}
use Rattle.ob0_world.specs.EventReport.{EventReport, report_on_event}
use Rattle.ob0_world.specs.declared.events.Event as event
use Rattle.ob0_world.specs.declared.faults.PlayFault.{PlayFault}
use Rattle.ob0_world.specs.declared.faults.WorldFault.{WorldFault}
use Rattle.ob0_world.specs.declared.faults.WorldFault.TheVariants.{Memory, Ended}
use Rattle.ob0_world.specs.declared.play_results.Played as played

-- ---- the session, and the contents between it and the editor

-- the session that serves the editor, and the contents of all messages between the two
pub record Wire : Type 0 where
  pub session : ServerState
  -- the contents that the editor has sent: the session has taken the contents in `taken`, and the
  -- contents in `to_server` still wait for the session
  pub taken : List (List ℕ)
  pub to_server : List (List ℕ)
  -- the contents that the session has sent: the editor has taken the contents in `got`, and the
  -- contents in `to_editor` still wait for the editor
  pub got : List (List ℕ)
  pub to_editor : List (List ℕ)

-- a connection: the client and server of the model, and the session with the exchanged contents
-- (`Wire`)
pub record Connection : Type 0 where
  pub model : ClientAndServer
  pub wire : Wire

-- States that the editor has initialized a new session and has taken the session's answer. Nothing
-- else has happened.
pub record IsInitialConnection (unit : Unit) (w : Connection) : Type 0 where
  pub content : List ℕ
  pub replies : List (List ℕ)
  pub initializes : IsJsonOfContent content (Some (initialize_message unit))
  pub answers : Answers server.initial_server_state content replies (state_after_initialize (client_features_for_unit unit))
  pub model : w.model ≡ initial_client_and_server unit
  pub wire : w.wire
      ≡ record {
        session = state_after_initialize (client_features_for_unit unit);
        taken = content ∷ [];
        to_server = [];
        got = replies;
        to_editor = [];
      }

-- States that the session takes the first waiting content, and that its replies are appended to the
-- contents that wait for the editor. If no content waits for the session, nothing changes.
abbrev pub SessionTakesFirstContent : List (List ℕ) → Wire → Wire → Type 0
SessionTakesFirstContent [] old new = new ≡ old
SessionTakesFirstContent (content ∷ rest) old new =
    (after : ServerState) × (sent : List (List ℕ)) × Answers old.session content sent after
    × (new
    ≡ record old {
      session = after;
      taken = old.taken ++ content ∷ [];
      to_server = rest;
      to_editor = old.to_editor ++ sent;
    })

-- States that the editor takes the first waiting content. If no content waits for the editor,
-- nothing changes.
abbrev pub EditorTakesFirstContent : List (List ℕ) → Wire → Wire → Type 0
EditorTakesFirstContent [] old new = new ≡ old
EditorTakesFirstContent (content ∷ rest) old new =
    new ≡ record old { got = old.got ++ content ∷ []; to_editor = rest }

-- states that the editor appends at most one content to the queue to the session, and that nothing
-- else changes
abbrev pub AppendsAtMostOneContent : Wire → Wire → Type 0
AppendsAtMostOneContent old new =
    (content : Option (List ℕ))
    × (new ≡ record old { to_server = old.to_server ++ option_to_list content })

-- States that this event changes the session and the contents from `old` to `new`. Only the event
-- `serve` changes the session. No waiting content is lost, changed or reordered.
abbrev pub EventChangesWire : Event → Wire → Wire → Type 0
EventChangesWire (editor_acts act) old new = AppendsAtMostOneContent old new
EventChangesWire serve old new = SessionTakesFirstContent old.to_server old new
EventChangesWire take_message old new = EditorTakesFirstContent old.to_editor old new

-- states that there are as many contents as messages, and that the n-th content is the n-th message
-- to the server
abbrev pub AreMessagesToServer : List SentAsk → List MessageToServer → List (List ℕ) → Type 0
AreMessagesToServer requested [] [] = ⊤
AreMessagesToServer requested (m ∷ messages) (content ∷ contents) =
    IsMessageToServer requested m content × AreMessagesToServer requested messages contents
AreMessagesToServer requested [] (content ∷ contents) = ⊥
AreMessagesToServer requested (m ∷ messages) [] = ⊥

-- States that the waiting contents are the messages that wait in the model, in both directions. The
-- documents of the model's server are the session's documents.
pub record QueuesMatch (w : Connection) : Type 0 where
  pub says : AreMessagesToServer w.model.editor.requested w.model.to_server w.wire.to_server
  pub means : map (message_to_editor_in_content w.model.editor.requested) w.wire.to_editor
      ≡ map Some w.model.to_editor
  pub documents : w.model.held ≡ w.wire.session.held

-- States that this event leads from the connection `old` to `new`, both in the model
-- (`EventLeadsTo`) and for the session and the contents (`EventChangesWire`). After the event, the
-- waiting contents are the messages that wait in the model (`QueuesMatch`).
pub record ConnectionSteps (old : Connection) (event : Event) (new : Connection) : Type 0 where
  pub happens : EventLeadsTo old.model event new.model
  pub moves : EventChangesWire event old.wire new.wire
  pub tied : QueuesMatch new

-- states that these events, one after another, lead from the connection `old` to the connection
-- `new`
abbrev pub IsConnectionCourse : Connection → List Event → Connection → Type 0
IsConnectionCourse old [] new = new ≡ old
IsConnectionCourse old (event ∷ events) new =
    (between : Connection) × ConnectionSteps old event between × IsConnectionCourse between events new

-- ---- the results that `play` returns for a list of events

-- states that `p`, the result of `play`, has the applied edits and the publications of the model's
-- state `w`, in order
abbrev pub ResultsMatchModel : ClientAndServer → played.Played → Type 0
ResultsMatchModel w p = (played_edits p ≡ w.applied) × (played_publications p ≡ w.made)

-- States that `p`, the result of `play`, has the contents that each side has taken according to the
-- wire `w`. It also has the contents that wait for the editor.
abbrev pub ContentsMatchWire : Wire → played.Played → Type 0
ContentsMatchWire w p =
    (bytes_of_contents p.taken.items ≡ w.taken)
    × (bytes_of_contents p.got.items ≡ w.got)
    × (bytes_of_contents p.unread.items ≡ w.to_editor)

-- States that `p` has the results of these events. The guarantees (`GuaranteesHoldForEvents`) hold
-- for the edits and publications in `p`. The events lead from an initialized connection to one that
-- has these results and contents. The contents in `p` are a session's conversation, from the
-- session's start.
pub record IsResultOfPlaying (unit : Unit) (events : List event.Event) (p : played.Played) : Type 0 where
  pub guarantees : GuaranteesHoldForEvents unit (map model_event_of events) (played_edits p) (played_publications p)
  pub begin : Connection
  pub begins : IsInitialConnection unit begin
  pub end : Connection
  pub course : IsConnectionCourse begin (map model_event_of events) end
  pub results_match : ResultsMatchModel end.model p
  pub contents_match : ContentsMatchWire end.wire p
  pub after : ServerState
  pub conversation : IsConversation server.initial_server_state (bytes_of_contents p.taken.items)
      (bytes_of_contents p.got.items ++ bytes_of_contents p.unread.items) after

-- States that no event happened: `fault` reports 0 steps, and has no edit, no publication and no
-- content. The guarantees (`GuaranteesHoldForEvents`) hold for the empty list of events.
pub record IsFaultBeforeFirstEvent (unit : Unit) (fault : PlayFault) : Type 0 where
  pub none : fault.steps ≡ 0
  pub guarantees : GuaranteesHoldForEvents unit [] (played_edits fault.played) (played_publications fault.played)
  pub taken : fault.played.taken.items ≡ []
  pub got : fault.played.got.items ≡ []
  pub unread : fault.played.unread.items ≡ []

-- States that `play` may return this fault. Either the first `fault.steps` events happened, but not
-- all events, and the fault has their results (`IsResultOfPlaying`). Or no event happened, and the
-- fault has no results (`IsFaultBeforeFirstEvent`).
abbrev pub IsFaultOfPlaying : Unit → List event.Event → PlayFault → Type 0
IsFaultOfPlaying unit events fault =
    ((fault.steps < length events) × IsResultOfPlaying unit (take fault.steps events) fault.played)
    ⊎ IsFaultBeforeFirstEvent unit fault

-- ---- a world, event by event

-- a connection whose events are counted as steps
pub record World : Type 0 where
  pub connection : Connection
  -- the number of steps that were made
  pub steps : ℕ
  -- true if a step has failed; then each later step also fails
  pub ended : Bool

-- states that no event has happened in this world yet: the editor has only initialized the session
pub record IsNewWorld (unit : Unit) (w : World) : Type 0 where
  pub begins : IsInitialConnection unit w.connection
  pub none : w.steps ≡ 0
  pub has_not_ended : w.ended ≡ false

-- states that the event happens, is reported and is counted as a step, and that the world hasn't
-- ended
pub record IsReportedAndCountedStep (old : World) (event : Event) (seen : EventReport) (new : World) : Type 0 where
  pub made : ConnectionSteps old.connection event new.connection
  pub shown : seen ≡ report_on_event old.connection.model event new.connection.model
  pub counted : new.steps ≡ old.steps + 1
  pub has_not_ended : new.ended ≡ false

-- States that the world makes this step (`IsReportedAndCountedStep`). The first argument says
-- whether the world had ended before the step. If it is true, the statement is false.
abbrev pub WorldStepsUnlessEnded : Bool → World → Event → EventReport → World → Type 0
WorldStepsUnlessEnded false old event seen new = IsReportedAndCountedStep old event seen new
WorldStepsUnlessEnded true old event seen new = ⊥

-- states that a step of the world `old` performs this event, returns this report and leads to the
-- world `new`
abbrev pub WorldSteps : World → Event → EventReport → World → Type 0
WorldSteps old event seen new = WorldStepsUnlessEnded old.ended old event seen new

-- States that `old` and `new` have the same applied edits and publications. In both, each side has
-- taken the same contents, and the same contents wait for the editor.
pub record HaveSameHistory (old new : Connection) : Type 0 where
  pub applied : new.model.applied ≡ old.model.applied
  pub made : new.model.made ≡ old.model.made
  pub taken : new.wire.taken ≡ old.wire.taken
  pub got : new.wire.got ≡ old.wire.got
  pub unread : new.wire.to_editor ≡ old.wire.to_editor

-- States that a step fails with this fault. The first argument says whether the world had ended
-- before the step. If it hadn't, the fault is `Memory`: the step isn't counted, and the world ends
-- and keeps its results and the exchanged contents (`HaveSameHistory`). If it had, the fault is
-- `Ended`, and the step changes nothing.
abbrev pub WorldFailsGivenEnded : Bool → World → WorldFault → World → Type 0
WorldFailsGivenEnded false old Memory new =
    HaveSameHistory old.connection new.connection × (new.steps ≡ old.steps) × (new.ended ≡ true)
WorldFailsGivenEnded false old Ended new = ⊥
WorldFailsGivenEnded true old Memory new = ⊥
WorldFailsGivenEnded true old Ended new = new ≡ old

-- states that a step of the world fails with this fault
abbrev pub WorldFails : World → WorldFault → World → Type 0
WorldFails old fault new = WorldFailsGivenEnded old.ended old fault new
