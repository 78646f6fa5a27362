-- Defines the events of a client and a server, and their results.
-- Rule: LSP 3.17: a model of client and server.
use Rattle.std.specs.Prelude.{◌≡◌, List, [], ◌∷◌, ◌++◌}
use Rattle.ob0_world_rules.specs.ClientAndServer.{MessageToServer, MessageToEditor, PublicationWithText, ClientAndServer, documents_after_message}
use Rattle.ob0_world_rules.specs.EditorActs.{EditorAct, ActResult, act_result, editor_after_message}
use Rattle.ob0_world_rules.specs.ServerReplies.{ServerRepliesToMessage}

-- an event: the editor acts, or the server or the editor takes a message
pub data Event : Type 0 where
  -- the editor acts
  editor_acts : EditorAct → Event
  -- the server takes the first message that waits for it, and sends its replies
  serve : Event
  -- the editor takes the first message that waits for it
  take_message : Event

-- returns the state after an act of the editor that has the result `done`
abbrev pub state_after_act : ClientAndServer → ActResult → ClientAndServer
state_after_act w done =
    record w {
      editor = done.editor;
      to_server = w.to_server ++ done.sent;
      applied = w.applied ++ done.applied;
    }

-- States that the server takes the first message that waits for it, and sends its replies. If no
-- message waits for the server, nothing changes.
abbrev pub ServerTakesFirstMessage : ClientAndServer → List MessageToServer → ClientAndServer → Type 0
ServerTakesFirstMessage w [] new = new ≡ w
ServerTakesFirstMessage w (message ∷ rest) new =
    (said : List MessageToEditor)
    × (made : List PublicationWithText)
    × ServerRepliesToMessage w.held message said made
    × (new
    ≡ record w {
      to_server = rest;
      held = documents_after_message w.held message;
      to_editor = w.to_editor ++ said;
      made = w.made ++ made;
    })

-- returns the state after the editor has taken the first waiting message, or the unchanged state if
-- no message waits
abbrev pub state_after_editor_takes_message : ClientAndServer → List MessageToEditor → ClientAndServer
state_after_editor_takes_message w [] = w
state_after_editor_takes_message w (message ∷ rest) =
    record w { editor = editor_after_message w.editor message; to_editor = rest }

-- states that this event leads from the state `w` to the state `new`
abbrev pub EventLeadsTo : ClientAndServer → Event → ClientAndServer → Type 0
EventLeadsTo w (editor_acts act) new = new ≡ state_after_act w (act_result w.editor act)
EventLeadsTo w serve new = ServerTakesFirstMessage w w.to_server new
EventLeadsTo w take_message new = new ≡ state_after_editor_takes_message w w.to_editor

-- states that these events, one after another, lead from the state `w` to the state `new`
abbrev pub IsCourse : ClientAndServer → List Event → ClientAndServer → Type 0
IsCourse w [] new = new ≡ w
IsCourse w (event ∷ events) new =
    (between : ClientAndServer) × EventLeadsTo w event between × IsCourse between events new
