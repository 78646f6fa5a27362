-- Defines the order of publications. The n-th publication with a version is made for the n-th
-- document that the editor announced. The editor announces a document to the server by opening or
-- changing it.
-- Rule: docs/PROTOCOL.md, Publishing 1.
use Rattle.std.specs.Prelude.{◌≡◌, ⊤, ℕ, ℤ, List, [], ◌∷◌, ◌++◌, map, Option, Some, None}
use Rattle.std.specs.List.{flat_map}
use Rattle.ob0_text.specs.declared.position_types.Unit.{Unit}
use Rattle.ob0_text.specs.OpenDocuments.{Opened, Changed, Lost, Closed}
use Rattle.ob0_world_rules.specs.ClientAndServer.{OpenDocument, Editor, editor_document_with_uri, MessageToServer, notifies, requests, PublicationWithText, ClientAndServer, initial_client_and_server}
use Rattle.ob0_world_rules.specs.EditorActs.{ActResult, act_result}
use Rattle.ob0_world_rules.specs.Events.{Event, editor_acts, serve, take_message, EventLeadsTo, IsCourse}

-- ---- the documents that the editor announced

-- a document that the editor announced to the server: its uri, and the document with the announced
-- version and text
pub record AnnouncedDocument : Type 0 where
  pub uri : List ℕ
  pub document : OpenDocument

-- returns a list with this document and its uri, or an empty list if no document is open (None)
abbrev pub announced_document_if_open : List ℕ → Option OpenDocument → List AnnouncedDocument
announced_document_if_open uri (Some d) = record { uri = uri; document = d } ∷ []
announced_document_if_open uri None = []

-- returns a list with the editor's document that the message opens or changes, or an empty list if
-- there is no such document
abbrev pub documents_announced_by_message : Editor → MessageToServer → List AnnouncedDocument
documents_announced_by_message e (notifies (Opened uri version text)) = announced_document_if_open uri (editor_document_with_uri e uri)
documents_announced_by_message e (notifies (Changed uri version how)) = announced_document_if_open uri (editor_document_with_uri e uri)
documents_announced_by_message e (notifies (Lost uri)) = []
documents_announced_by_message e (notifies (Closed uri)) = []
documents_announced_by_message e (requests number uri ask) = []

-- returns the editor's documents that these messages open or change, in order
abbrev pub documents_announced_by_sent_messages : Editor → List MessageToServer → List AnnouncedDocument
documents_announced_by_sent_messages e messages = flat_map (documents_announced_by_message e) messages

-- Returns the documents that the editor announces by this event. The list is empty unless the event
-- is an act of the editor.
abbrev pub documents_announced_by_event : ClientAndServer → Event → List AnnouncedDocument
documents_announced_by_event w (editor_acts act) =
    let done : ActResult = act_result w.editor act in documents_announced_by_sent_messages done.editor done.sent
documents_announced_by_event w serve = []
documents_announced_by_event w take_message = []

-- states that the editor announces exactly these documents, in this order, in the course of these
-- events
abbrev pub EventsAnnounceDocuments : ClientAndServer → List Event → List AnnouncedDocument → Type 0
EventsAnnounceDocuments w [] announced = announced ≡ []
EventsAnnounceDocuments w (event ∷ events) announced =
    (between : ClientAndServer)
    × (later : List AnnouncedDocument)
    × EventLeadsTo w event between
    × EventsAnnounceDocuments between events later
    × (announced ≡ documents_announced_by_event w event ++ later)

-- ---- publications for the announced documents

-- states that the publication has the uri, the version and the text of this document
abbrev pub IsMadeForDocument : PublicationWithText → AnnouncedDocument → Type 0
IsMadeForDocument m t = (m.uri ≡ t.uri) × (m.version ≡ t.document.version) × (m.text ≡ t.document.text)

-- states that there are as many publications as documents, and that the n-th publication is made
-- for the n-th document
abbrev pub AreMadeForDocumentsInOrder : List PublicationWithText → List AnnouncedDocument → Type 0
AreMadeForDocumentsInOrder [] [] = ⊤
AreMadeForDocumentsInOrder (m ∷ made) (t ∷ announced) = IsMadeForDocument m t × AreMadeForDocumentsInOrder made announced
AreMadeForDocumentsInOrder [] (t ∷ announced) = ⊥
AreMadeForDocumentsInOrder (m ∷ made) [] = ⊥

-- returns a list with the uri and version of the document that the message opens or changes, or an
-- empty list for any other message
abbrev pub uri_and_version_announced_by_message : MessageToServer → List (List ℕ × ℤ)
uri_and_version_announced_by_message (notifies (Opened uri version text)) = (uri, version) ∷ []
uri_and_version_announced_by_message (notifies (Changed uri version how)) = (uri, version) ∷ []
uri_and_version_announced_by_message (notifies (Lost uri)) = []
uri_and_version_announced_by_message (notifies (Closed uri)) = []
uri_and_version_announced_by_message (requests number uri ask) = []

-- returns the uris and versions of the documents that these messages open or change, in order
abbrev pub uris_and_versions_announced_in_queue : List MessageToServer → List (List ℕ × ℤ)
uris_and_versions_announced_in_queue [] = []
uris_and_versions_announced_in_queue (message ∷ queue) = uri_and_version_announced_by_message message ++ uris_and_versions_announced_in_queue queue

-- returns a document's uri and version
abbrev pub uri_and_version_of : AnnouncedDocument → List ℕ × ℤ
uri_and_version_of t = (t.uri, t.document.version)

-- States that the publications `made` follow the documents that the editor announces by these
-- events. These documents are the list `announced` followed by the list `waiting`. The n-th
-- publication was made for the n-th document in `announced`. The documents in `waiting` are
-- announced by messages that still wait for the server.
pub record PublicationsFollowAnnouncements (unit : Unit) (events : List Event) (made : List PublicationWithText) : Type 0 where
  pub announced : List AnnouncedDocument
  pub waiting : List AnnouncedDocument
  pub all : EventsAnnounceDocuments (initial_client_and_server unit) events (announced ++ waiting)
  pub are_made_for_documents : AreMadeForDocumentsInOrder made announced
  pub unpublished_are_queued : (end : ClientAndServer)
      → IsCourse (initial_client_and_server unit) events end
      → map uri_and_version_of waiting ≡ uris_and_versions_announced_in_queue end.to_server

-- ---- the law

-- states that publications are made for the announced documents, in the order in which the editor
-- announced them
abbrev pub PublicationsAreInOrder : Type 0
PublicationsAreInOrder =
    (unit : Unit) (events : List Event) (end : ClientAndServer)
    → IsCourse (initial_client_and_server unit) events end
    → PublicationsFollowAnnouncements unit events end.made
