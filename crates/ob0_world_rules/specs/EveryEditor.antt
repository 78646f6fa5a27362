-- States the guarantees for every editor that keeps ob0's rules, in every interleaving of the
-- editor's and the server's turns. A turn is one step of the editor or of the server.
-- Rule: docs/PROMISES.md, Client and server.
use Rattle.std.specs.Prelude.{◌≡◌, List, [], ◌∷◌, ◌++◌, map, Option, Some, None}
use Rattle.ob0_text.specs.declared.position_types.Unit.{Unit}
use Rattle.ob0_text.specs.OpenDocuments.{OpenDocuments, no_open_documents}
use Rattle.ob0_world_rules.specs.ClientAndServer.{Editor, new_editor, MessageToServer, notifies, requests, MessageToEditor, AppliedEdit, PublicationWithText, ClientAndServer, initial_client_and_server, documents_after_message}
use Rattle.ob0_world_rules.specs.EditorActs.{ActResult, editor_after_message}
use Rattle.ob0_world_rules.specs.ServerReplies.{ServerRepliesToMessage}
use Rattle.ob0_world_rules.specs.Events.{Event, IsCourse}
use Rattle.ob0_world_rules.specs.Headline.{GuaranteesHold, PublicationsAreUpToDate}
use Rattle.ob0_world_rules.specs.MirroredDocuments.{ServerWillMirrorEditor}
use Rattle.ob0_world_rules.specs.PublicationsAreInOrder.{AnnouncedDocument, AreMadeForDocumentsInOrder, uris_and_versions_announced_in_queue, uri_and_version_of}
use Rattle.ob0_world_rules.specs.EditorMoves.{EditorMove, IsAllowedMove}

-- ---- an editor and the server

-- An editor and the server, with a queue of messages in each direction. A queue may contain
-- messages outside the model (`None`). These are read-only requests (for example hover requests),
-- their answers, other responses, notifications that the server ignores, and JSON that isn't a
-- message.
pub record EditorAndServer : Type 0 where
  pub editor : Editor
  pub to_server : List (Option MessageToServer)
  -- the documents that are open in the server
  pub held : OpenDocuments
  pub to_editor : List (Option MessageToEditor)
  -- the documents that the editor has announced to the server so far
  pub announced : List AnnouncedDocument
  pub applied : List AppliedEdit
  pub made : List PublicationWithText

-- returns the state before the first turn, in which editor and server count positions in this unit
abbrev pub initial_editor_and_server : Unit → EditorAndServer
initial_editor_and_server unit =
    record {
      editor = new_editor unit;
      to_server = [];
      held = no_open_documents unit;
      to_editor = [];
      announced = [];
      applied = [];
      made = [];
    }

-- returns the messages of a queue, in order, without the messages outside the model (`None`)
abbrev pub modeled_messages : {A : Type 0} → List (Option A) → List A
modeled_messages [] = []
modeled_messages (None ∷ queue) = modeled_messages queue
modeled_messages (Some message ∷ queue) = message ∷ modeled_messages queue

-- returns the notifications about documents in a queue, in order, without the requests for edits
abbrev pub notifications_in_queue : List MessageToServer → List MessageToServer
notifications_in_queue [] = []
notifications_in_queue (notifies note ∷ queue) = notifies note ∷ notifications_in_queue queue
notifications_in_queue (requests k uri ask ∷ queue) = notifications_in_queue queue

-- returns the state as a `ClientAndServer`, without the messages outside the model and without the
-- list of announced documents
abbrev pub model_state_of : EditorAndServer → ClientAndServer
model_state_of w =
    record {
      editor = w.editor;
      to_server = modeled_messages w.to_server;
      held = w.held;
      to_editor = modeled_messages w.to_editor;
      applied = w.applied;
      made = w.made;
    }

-- ---- turns, and the states to which they lead

-- a turn: the editor makes a move or sends a message outside the model, or the server or the editor
-- takes a message
pub data ExchangeTurn : Type 0 where
  -- the editor makes a move
  editor_moves : EditorMove → ExchangeTurn
  -- the editor sends a message outside the model (`None`)
  editor_sends_unmodeled_message : ExchangeTurn
  -- the server takes the first message that waits for it, and sends its replies
  server_takes_message : ExchangeTurn
  -- the editor takes the first message that waits for it
  editor_takes_message : ExchangeTurn

-- returns the state after a move of the editor that has this result and announces these documents
abbrev pub state_after_move : EditorAndServer → ActResult → List AnnouncedDocument → EditorAndServer
state_after_move w done announced =
    record w {
      editor = done.editor;
      to_server = w.to_server ++ map Some done.sent;
      announced = w.announced ++ announced;
      applied = w.applied ++ done.applied;
    }

-- States that the server takes the first waiting message and sends its replies. If that message is
-- outside the model (None), no document changes, and all replies are outside the model. If no
-- message waits, nothing changes.
abbrev pub ServerTakesNextMessage : EditorAndServer → List (Option MessageToServer) → EditorAndServer → Type 0
ServerTakesNextMessage w [] new = new ≡ w
ServerTakesNextMessage w (None ∷ rest) new =
    (said : List (Option MessageToEditor))
    × (modeled_messages said ≡ [])
    × (new ≡ record w { to_server = rest; to_editor = w.to_editor ++ said })
ServerTakesNextMessage w (Some message ∷ rest) new =
    (said : List MessageToEditor)
    × (made : List PublicationWithText)
    × ServerRepliesToMessage w.held message said made
    × (new
    ≡ record w {
      to_server = rest;
      held = documents_after_message w.held message;
      to_editor = w.to_editor ++ map Some said;
      made = w.made ++ made;
    })

-- Returns the state after the editor has taken the first waiting message. A message outside the
-- model (None) is only removed from the queue. If no message waits, the state is unchanged.
abbrev pub state_after_editor_takes_next_message : EditorAndServer → List (Option MessageToEditor) → EditorAndServer
state_after_editor_takes_next_message w [] = w
state_after_editor_takes_next_message w (None ∷ rest) = record w { to_editor = rest }
state_after_editor_takes_next_message w (Some message ∷ rest) =
    record w { editor = editor_after_message w.editor message; to_editor = rest }

-- states that this turn can lead from the state `w` to the state `new`
abbrev pub TurnMayLeadTo : EditorAndServer → ExchangeTurn → EditorAndServer → Type 0
TurnMayLeadTo w (editor_moves move) new =
    (done : ActResult)
    × (announced : List AnnouncedDocument)
    × IsAllowedMove w.editor move done announced
    × (new ≡ state_after_move w done announced)
TurnMayLeadTo w editor_sends_unmodeled_message new = new ≡ record w { to_server = w.to_server ++ None ∷ [] }
TurnMayLeadTo w server_takes_message new = ServerTakesNextMessage w w.to_server new
TurnMayLeadTo w editor_takes_message new = new ≡ state_after_editor_takes_next_message w w.to_editor

-- states that these turns, one after another, can lead from the state `w` to the state `new`
abbrev pub IsCourseOfTurns : EditorAndServer → List ExchangeTurn → EditorAndServer → Type 0
IsCourseOfTurns w [] new = new ≡ w
IsCourseOfTurns w (turn ∷ turns) new =
    (between : EditorAndServer) × TurnMayLeadTo w turn between × IsCourseOfTurns between turns new

-- ---- the laws

-- States the guarantees for the state `w`. They hold for each state to which turns lead from the
-- initial state: the law `guarantees_hold_for_every_editor`.
pub record GuaranteesHoldForEditorAndServer (w : EditorAndServer) : Type 0 where
  -- Each applied edit keeps the module's run. Each list of diagnostics is empty exactly if its text
  -- is a well-typed module. If no message of the model waits for the server, the latest diagnostics
  -- of each open document are for its present text.
  pub holds : GuaranteesHold (model_state_of w)
  -- If no notification waits for the server, the latest diagnostics of each open document are for
  -- its present text. This holds even if asks and messages outside the model still wait.
  pub latest : notifications_in_queue (modeled_messages w.to_server) ≡ [] → PublicationsAreUpToDate w.editor w.made
  -- once the server has taken the waiting messages, it has the same documents as the editor
  pub mirrors : ServerWillMirrorEditor (model_state_of w)
  -- The list of announced documents consists of `published`, followed by `waiting`. The n-th
  -- publication is for the n-th document in `published`. The documents in `waiting` are announced
  -- by messages that still wait for the server.
  pub published : List AnnouncedDocument
  pub waiting : List AnnouncedDocument
  pub all : w.announced ≡ published ++ waiting
  pub are_made_for_documents : AreMadeForDocumentsInOrder w.made published
  pub unpublished_are_queued : map uri_and_version_of waiting ≡ uris_and_versions_announced_in_queue (modeled_messages w.to_server)

-- States that the model's editor keeps ob0's rules. Each state to which its events lead can also be
-- reached by turns of an editor that keeps the rules.
abbrev pub ModelEditorKeepsRules : Type 0
ModelEditorKeepsRules =
    (unit : Unit) (events : List Event) (end : ClientAndServer)
    → IsCourse (initial_client_and_server unit) events end
    → (turns : List ExchangeTurn)
    × (w : EditorAndServer)
    × IsCourseOfTurns (initial_editor_and_server unit) turns w
    × (model_state_of w ≡ end)
