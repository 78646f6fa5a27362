-- Defines how the fields of the code's `Connection` become a state of the model
-- (`ClientAndServer`). Also defines the connection's invariant, and the clauses of its private
-- functions' contracts. No contract of a public function mentions these definitions. A connection
-- stores each queue as a list of contents. A content is the bytes of one message. The messages of
-- the model are read from these contents (`messages_to_server_in_contents`,
-- `messages_to_editor_in_contents`). By the invariant, each waiting content is a message of the
-- model. This message doesn't change when the editor sends more requests (`proofs/Waiting`).
-- `RunsWithModelEditor` states that the session's client has two features of the model's editor. So
-- the session writes each WorkspaceEdit with the member `documentChanges`.
use Rattle.std.specs.Prelude.{◌≡◌, ◌≤◌, ◌⊎◌, ℕ, ℤ, List, [], ◌∷◌, ◌++◌, map, length, All, Bool, true, Option, Some, None, Vec, option_and_then, filter_map}
use Rattle.std.specs.declared.alloc.Global.{Global}
use Rattle.ob0_text.specs.OpenDocuments.{OpenDocuments, Document, InStep, OutOfStep, document_at}
use Rattle.ob0_text.specs.declared.position_types.Unit.{Unit}
use Rattle.ob0_session_server.specs.Answers.{ServerState}
use Rattle.ob0_session_server.specs.declared.session.Phase.TheVariants.{Running, Failed}
use Rattle.ob0_world_editor.specs.MessagesToServer.{message_to_server_in_content, IsMessageToServer}
use Rattle.ob0_world_editor.specs.MessagesToEditor.{message_to_editor_in_content}
use Rattle.ob0_world_editor.specs.ModelValues.{model_applied_edit_of}
use Rattle.ob0_world_editor.specs.declared.applied_edits.Applied as applied
use Rattle.ob0_world_rules.specs.ClientAndServer.{OpenDocument, SentAsk, Editor, editor_document_with_uri, MessageToServer, MessageToEditor, publishes, answers, PublicationWithText, ClientAndServer, initial_client_and_server}
use Rattle.ob0_world_rules.specs.EditorActs.{version_as_natural}
use Rattle.ob0_world_rules.specs.Events.{Event, IsCourse}
use Rattle.ob0_world.specs.declared.events.Seen as seen
use Rattle.ob0_world.specs.declared.play_results.Made as made
pub use Rattle.ob0_world.specs.ModelValues.{bytes_of_contents}
use Rattle.ob0_world.specs.ModelValues.{model_publication_of}
use Rattle.ob0_world.specs.EventReport.{nothing, sent, model_report_of}
use Rattle.ob0_world.specs.Worlds.{Wire, Connection}

-- a list of contents, for example a queue; a content is the bytes of one message
abbrev pub Contents : Type 0
Contents = List (Vec ℕ Global)

-- Returns the messages to the server in these contents, in order. `requested` lists the requests
-- for edits that the editor has sent. Any other content is left out.
abbrev pub messages_to_server_in_contents : List SentAsk → Contents → List MessageToServer
messages_to_server_in_contents requested contents = filter_map (message_to_server_in_content requested) (bytes_of_contents contents)

-- Returns the messages to the editor in these contents, in order. `requested` lists the requests
-- for edits that the editor has sent. Any other content is left out.
abbrev pub messages_to_editor_in_contents : List SentAsk → Contents → List MessageToEditor
messages_to_editor_in_contents requested contents = filter_map (message_to_editor_in_content requested) (bytes_of_contents contents)

-- states that the content is a message of the model to the server; `requested` lists the requests
-- for edits that the editor has sent
abbrev pub MeansMessageToServer : List SentAsk → Vec ℕ Global → Type 0
MeansMessageToServer requested content = (m : MessageToServer) × IsMessageToServer requested m content.items

-- states that the content is a message of the model to the editor; `requested` lists the requests
-- for edits that the editor has sent
abbrev pub MeansMessageToEditor : List SentAsk → Vec ℕ Global → Type 0
MeansMessageToEditor requested content = (m : MessageToEditor) × (message_to_editor_in_content requested content.items ≡ Some m)

-- ---- the session

-- States that the session is running, and that its client has two features of the model's editor.
-- The client accepts literal code actions, which contain their edits. And it accepts edits that
-- mention their documents' versions. So the session writes code actions and edits in these forms.
abbrev pub RunsWithModelEditor : ServerState → Type 0
RunsWithModelEditor s =
    (s.phase ≡ Running)
    × (s.client.accepts_document_changes ≡ true)
    × (s.client.accepts_literal_actions ≡ true)

-- states that the session is running with a client like the model's editor (`RunsWithModelEditor`),
-- or that the session has failed
abbrev pub RunsWithModelEditorOrFailed : ServerState → Type 0
RunsWithModelEditorOrFailed s = RunsWithModelEditor s ⊎ (s.phase ≡ Failed)

-- ---- publications

-- Returns the publication with this uri and version, and with the text of this document, for which
-- the diagnostics were made. `empty` says whether there are no diagnostics. Returns None if the
-- document is out of step: its text isn't known.
abbrev pub publication_with_text : List ℕ → ℤ → Bool → Document → Option PublicationWithText
publication_with_text uri version empty (InStep held text) =
    Some (record { uri = uri; version = version; text = text; no_diagnostics = empty })
publication_with_text uri version empty OutOfStep = None

-- Returns the publication in a message, with the text that its document has in `held`, the server's
-- documents. Returns None if the message isn't a publication with a version, or if the document
-- isn't open or is out of step.
abbrev pub publication_in_message : OpenDocuments → MessageToEditor → Option PublicationWithText
publication_in_message held (publishes uri (Some version) empty) =
    option_and_then (publication_with_text uri version empty) (document_at held uri)
publication_in_message held (publishes uri None empty) = None
publication_in_message held (answers k edits) = None

-- Returns the publication in the first message (`publication_in_message`), or None if there is no
-- message. Only the first message is examined, because the server sends at most one reply.
abbrev pub publication_in_first_message : OpenDocuments → List MessageToEditor → Option PublicationWithText
publication_in_first_message held [] = None
publication_in_first_message held (m ∷ ms) = publication_in_message held m

-- ---- the model's state for the fields of the code's connection

-- States that each waiting content is a message to its receiver. The session has failed, or it runs
-- with a client like the model's editor (`RunsWithModelEditor`).
pub record ConnectionInvariant (requested : List SentAsk) (to_server to_editor : Contents)
    (session : ServerState) : Type 0 where
  pub to_server_are_messages : All (MeansMessageToServer requested) to_server
  pub to_editor_are_messages : All (MeansMessageToEditor requested) to_editor
  pub running : RunsWithModelEditorOrFailed session

-- returns the state of the model (`ClientAndServer`) for these fields of the code's connection
abbrev pub model_from_fields : Editor
    → Contents
    → ServerState
    → Contents
    → List applied.Applied
    → List made.Made
    → ClientAndServer
model_from_fields e to_server session to_editor applied made =
    record {
      editor = e;
      to_server = messages_to_server_in_contents e.requested to_server;
      held = session.held;
      to_editor = messages_to_editor_in_contents e.requested to_editor;
      applied = map model_applied_edit_of applied;
      made = map model_publication_of made;
    }

-- returns the session and the contents in each direction (`Wire`) for these fields of the code's
-- connection
abbrev pub wire_from_fields : ServerState → Contents → Contents → Contents → Contents → Wire
wire_from_fields session taken to_server got to_editor =
    record {
      session = session;
      taken = bytes_of_contents taken;
      to_server = bytes_of_contents to_server;
      got = bytes_of_contents got;
      to_editor = bytes_of_contents to_editor;
    }

-- returns the model's connection for these fields of the code's connection: the model's client and
-- server, and the session with the contents
abbrev pub connection_from_fields : Editor
    → Contents
    → ServerState
    → Contents
    → List applied.Applied
    → List made.Made
    → Contents
    → Contents
    → Connection
connection_from_fields e to_server session to_editor applied made taken got =
    record {
      model = model_from_fields e to_server session to_editor applied made;
      wire = wire_from_fields session taken to_server got to_editor;
    }

-- ---- the invariant of a world: bounds on the editor's counters, and a reachable state

-- States that three numbers are at most `n`: how often the editor has opened a document, how many
-- requests for edits it has sent, and each open document's version.
pub record CountsAreAtMost (n : ℕ) (e : Editor) : Type 0 where
  pub openings : e.openings ≤ n
  pub asks : length e.requested ≤ n
  pub versions : (uri : List ℕ) (d : OpenDocument) → editor_document_with_uri e uri ≡ Some d → version_as_natural d.version ≤ n

-- states that some list of events leads from the initial state (`initial_client_and_server`) to this state
abbrev pub IsReachable : ClientAndServer → Type 0
IsReachable w = (unit : Unit) × (events : List Event) × IsCourse (initial_client_and_server unit) events w

-- ---- clauses of the functions that serve, send and take a content

-- Returns the publication in the first content (`publication_in_message`). Returns None if there is
-- no content, if the first content isn't a message to the editor, or if `publication_in_message`
-- gives None.
abbrev pub publication_in_first_content : OpenDocuments → List SentAsk → Contents → Option PublicationWithText
publication_in_first_content held requested [] = None
publication_in_first_content held requested (content ∷ contents) =
    option_and_then (publication_in_message held) (message_to_editor_in_content requested content.items)

-- States that the queue `new` is the queue `old` with this content appended, and that the report
-- `seen` is `sent`. If there is no content (None), the queue is unchanged and the report is
-- `nothing`.
abbrev pub AppendsContentToQueue : Contents → Option (Vec ℕ Global) → seen.Seen → Contents → Type 0
AppendsContentToQueue old None seen new = (model_report_of seen ≡ nothing) × (new ≡ old)
AppendsContentToQueue old (Some content) seen new = (model_report_of seen ≡ sent) × (new ≡ old ++ content ∷ [])

-- States that the first waiting content was moved to the end of `got`, the contents that the editor
-- has taken. If no content waits, nothing has changed. `waiting'` and `got'` are the waiting and
-- the taken contents after the move.
abbrev pub MovesFirstContent : Contents → Contents → Contents → Contents → Type 0
MovesFirstContent [] got waiting' got' = (waiting' ≡ []) × (got' ≡ got)
MovesFirstContent (content ∷ rest) got waiting' got' =
    (waiting' ≡ rest) × (got' ≡ got ++ content ∷ [])
