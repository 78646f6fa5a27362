-- Defines the states of a client (the editor) and a server, and the messages between them.
-- Rule: LSP 3.17: a model of client and server.
use Rattle.std.specs.Prelude.{ℕ, zero, suc, ℤ, List, [], Bool, Option, None, slice_get}
use Rattle.std.specs.Ordering.{nat_cmp}
use Rattle.std.specs.Cmp.Lexicographic.{slice_cmp}
use Rattle.std.specs.FinMap as map_of
use Rattle.ob0_text.specs.declared.position_types.Unit.{Unit}
use Rattle.ob0_text.specs.OpenDocuments.{OpenDocuments, DocumentEvent, documents_after_event, no_open_documents}
use Rattle.ob0_world_rules.specs.TextEdits.{Replacement}
use Rattle.ob0_world_rules.specs.Asks.{Ask}

-- ---- the editor

-- A document that is open in the editor: its version, its text, and its opening number. The
-- openings of all documents are numbered together, starting with 1.
pub record OpenDocument : Type 0 where
  pub version : ℤ
  pub text : List ℕ
  pub opening : ℕ

-- the open documents of an editor: a map from each document's uri, as bytes, to the document
abbrev pub EditorDocuments : Type 0
EditorDocuments = map_of.FinMap (slice_cmp nat_cmp) OpenDocument

-- An ask (a request for edits) that the editor has sent, with its document's uri. The text, the
-- opening number and the version are the document's at the time of sending.
pub record SentAsk : Type 0 where
  pub ask : Ask
  pub uri : List ℕ
  pub text : List ℕ
  pub opening : ℕ
  pub version : ℤ

-- an answer that the editor has received and not yet used: the number of its ask (request for
-- edits), and the edits
pub record ReceivedAnswer : Type 0 where
  pub number : ℕ
  pub edits : List Replacement

-- an editor: its open documents, the requests for edits that it has sent, and the answers that it
-- has not used yet
pub record Editor : Type 0 where
  -- the unit in which positions are counted
  pub unit : Unit
  pub documents : EditorDocuments
  -- the number of openings so far, including the openings of documents that have been closed since
  pub openings : ℕ
  -- the requests for edits that were sent, in order; the first has number 1
  pub requested : List SentAsk
  pub answers : List ReceivedAnswer

-- returns a new editor that counts positions in this unit and has no open documents
abbrev pub new_editor : Unit → Editor
new_editor unit =
    record { unit = unit; documents = map_of.empty; openings = 0; requested = []; answers = [] }

-- returns the sent request for edits with this number, counted from 1, or None if there is no such
-- request
abbrev pub sent_ask_with_number : List SentAsk → ℕ → Option SentAsk
sent_ask_with_number requested zero = None
sent_ask_with_number requested (suc k) = slice_get requested k

-- returns the open document with this uri, or None if no document with this uri is open
abbrev pub editor_document_with_uri : Editor → List ℕ → Option OpenDocument
editor_document_with_uri e uri = map_of.get e.documents uri

-- ---- the messages in the queues

-- a message to the server: a notification about a document, or an ask (a request for edits)
pub data MessageToServer : Type 0 where
  notifies : DocumentEvent → MessageToServer
  -- an ask: its number, the document's uri, and the requested edits
  requests : ℕ → List ℕ → Ask → MessageToServer

-- a message to the editor: a publication of diagnostics, or the answer to an ask (request for
-- edits)
pub data MessageToEditor : Type 0 where
  -- The document's uri and version, and whether the list of diagnostics is empty. When a document
  -- is closed, an empty list without a version is published.
  publishes : List ℕ → Option ℤ → Bool → MessageToEditor
  -- the ask's number and the edits; a refusal has no edits
  answers : ℕ → List Replacement → MessageToEditor

-- ---- records of applied edits and publications

-- an edit that the editor applied: the document's uri, and its text before and after the edit
pub record AppliedEdit : Type 0 where
  pub uri : List ℕ
  pub before : List ℕ
  pub after : List ℕ

-- A publication of diagnostics, with the document's uri and version. `text` is the text for which
-- the diagnostics were made. `no_diagnostics` says whether the list of diagnostics is empty.
pub record PublicationWithText : Type 0 where
  pub uri : List ℕ
  pub version : ℤ
  pub text : List ℕ
  pub no_diagnostics : Bool

-- ---- a client and a server with their queues

-- the editor, the server's documents, the queues in both directions, the edits that were applied
-- and the publications that were made
pub record ClientAndServer : Type 0 where
  pub editor : Editor
  pub to_server : List MessageToServer
  -- the documents that are open in the server
  pub held : OpenDocuments
  pub to_editor : List MessageToEditor
  pub applied : List AppliedEdit
  pub made : List PublicationWithText

-- returns the state before the first event, for a client and a server that count positions in this
-- unit
abbrev pub initial_client_and_server : Unit → ClientAndServer
initial_client_and_server unit =
    record {
      editor = new_editor unit;
      to_server = [];
      held = no_open_documents unit;
      to_editor = [];
      applied = [];
      made = [];
    }

-- returns the server's documents after the server has taken a message
abbrev pub documents_after_message : OpenDocuments → MessageToServer → OpenDocuments
documents_after_message held (notifies note) = documents_after_event held note
documents_after_message held (requests number uri ask) = held
