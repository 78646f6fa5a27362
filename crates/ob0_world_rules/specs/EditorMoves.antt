-- Defines the rules for an editor: which moves it may make, and which messages it then sends. The
-- model's editor (`act_result`) also keeps these rules, but each of its acts has only one result.
use Rattle.std.specs.Prelude.{◌≡◌, ◌⊎◌, ◌+◌, ℕ, ℤ, List, [], ◌∷◌, ◌++◌, map, Some}
use Rattle.std.specs.FinMap as map_of
use Rattle.ob0_text.specs.OpenDocuments.{TextChange, Opened, Changed}
use Rattle.ob0_world_rules.specs.TextEdits.{Replacement, text_after_edits, text_after_changes}
use Rattle.ob0_world_rules.specs.OtherWhiteSpace.{HaveSameTokens}
use Rattle.ob0_world_rules.specs.Asks.{Ask}
use Rattle.ob0_world_rules.specs.ClientAndServer.{OpenDocument, SentAsk, Editor, sent_ask_with_number, editor_document_with_uri, MessageToServer, notifies}
use Rattle.ob0_world_rules.specs.EditorActs.{ActResult, result_without_messages, result_with_message, result_of_closing_document, result_of_sending_ask, edits_of_answer_to_request, editor_without_answer}
use Rattle.ob0_world_rules.specs.PublicationsAreInOrder.{AnnouncedDocument}

-- a revision of a document: its next version and text, and the changes that are sent to the server
pub record Revision : Type 0 where
  pub version : ℤ
  pub text : List ℕ
  pub sent_changes : List TextChange

-- A move of an editor. Unlike an act of the model's editor (`EditorAct`), a move may give a document
-- any version, and its changes are a list of revisions.
pub data EditorMove : Type 0 where
  -- the uri, the version and the text
  editor_opens : List ℕ → ℤ → List ℕ → EditorMove
  -- the user's changes of an open document; each revision is sent as one notification
  editor_revises : List ℕ → List Revision → EditorMove
  editor_closes : List ℕ → EditorMove
  editor_asks : List ℕ → Ask → EditorMove
  -- `editor_applies` makes the edits of the answer to the request with this number, and sends these
  -- revisions; `editor_discards` discards the answer
  editor_applies : ℕ → List Revision → EditorMove
  editor_discards : ℕ → EditorMove

-- ---- revisions

-- returns the document with the version and the text of the revision
abbrev pub revised_document : OpenDocument → Revision → OpenDocument
revised_document d r = record d { version = r.version; text = r.text }

-- returns the editor with this document open under this uri
abbrev pub editor_with_document : Editor → List ℕ → OpenDocument → Editor
editor_with_document e uri d = record e { documents = map_of.insert e.documents uri d }

-- States that these revisions of the open document `uri`, made in order, lead from editor `e` to
-- editor `new`. The n-th document in `announced` is the document after the n-th revision. The
-- changes of each revision turn the previous text into the revision's text. Positions are counted
-- in the editor's unit. Any version is allowed.
abbrev pub RevisesDocument : Editor → List ℕ → List Revision → Editor → List AnnouncedDocument → Type 0
RevisesDocument e uri [] new announced = (new ≡ e) × (announced ≡ [])
RevisesDocument e uri (r ∷ more) new announced =
    (d : OpenDocument)
    × (later : List AnnouncedDocument)
    × (editor_document_with_uri e uri ≡ Some d)
    × (text_after_changes e.unit (Some d.text) r.sent_changes ≡ Some r.text)
    × RevisesDocument (editor_with_document e uri (revised_document d r)) uri more new later
    × (announced ≡ record { uri = uri; document = revised_document d r } ∷ later)

-- returns one change notification for each of these revisions of the document with this uri, in
-- order
abbrev pub notifications_of_revisions : List ℕ → List Revision → List MessageToServer
notifications_of_revisions uri revisions = map (λ r. notifies (Changed uri r.version r.sent_changes)) revisions

-- ---- answers

-- States that the editor makes all edits of the answer to request `k`, in the document that was
-- asked about. The document must be open, with the same text as when the request was sent. The
-- edits make the text `edited`. The text that the editor makes, `text`, is the same, or has the
-- same tokens: line ends and other white space may differ. The revisions tell the server the
-- document's next texts, which may include what the user types after the edit.
pub record AppliesAnswer (e : Editor) (k : ℕ) (revisions : List Revision) (done : ActResult)
    (announced : List AnnouncedDocument) : Type 0 where
  pub edits : List Replacement
  pub answered : edits_of_answer_to_request k e.answers ≡ Some edits
  pub requested : SentAsk
  pub numbered : sent_ask_with_number e.requested k ≡ Some requested
  pub document : OpenDocument
  pub is_open : editor_document_with_uri e requested.uri ≡ Some document
  pub same_text : document.text ≡ requested.text
  pub edited : List ℕ
  pub makes : text_after_edits e.unit document.text edits ≡ Some edited
  pub text : List ℕ
  pub same_tokens : (text ≡ edited) ⊎ HaveSameTokens edited text
  pub new : Editor
  pub revises : RevisesDocument (editor_without_answer e k) requested.uri revisions new announced
  pub is : done
      ≡ record {
        editor = new;
        sent = notifications_of_revisions requested.uri revisions;
        applied = record { uri = requested.uri; before = document.text; after = text } ∷ [];
      }

-- ---- the allowed moves and their results

-- Returns the result of opening the document `d` under this uri. `d` already has its version, text
-- and opening number. A document that is already open may be opened again.
abbrev pub result_of_opening_given_document : OpenDocument → Editor → List ℕ → ActResult
result_of_opening_given_document d e uri =
    result_with_message (record (editor_with_document e uri d) { openings = d.opening })
    (notifies (Opened uri d.version d.text)) []

-- States that a move may have this result and announce these documents to the server. Only an open
-- document can be revised or asked about.
abbrev pub IsAllowedMove : Editor → EditorMove → ActResult → List AnnouncedDocument → Type 0
IsAllowedMove e (editor_opens uri version text) done announced =
    let d : OpenDocument = record { version = version; text = text; opening = e.openings + 1 } in
    (done ≡ result_of_opening_given_document d e uri)
    × (announced ≡ record { uri = uri; document = d } ∷ [])
IsAllowedMove e (editor_revises uri revisions) done announced =
    (new : Editor)
    × RevisesDocument e uri revisions new announced
    × (done
    ≡ record { editor = new; sent = notifications_of_revisions uri revisions; applied = [] })
IsAllowedMove e (editor_closes uri) done announced =
    (done ≡ result_of_closing_document e uri) × (announced ≡ [])
IsAllowedMove e (editor_asks uri ask) done announced =
    (d : OpenDocument)
    × (editor_document_with_uri e uri ≡ Some d)
    × (done ≡ result_of_sending_ask e uri ask d)
    × (announced ≡ [])
IsAllowedMove e (editor_applies k revisions) done announced =
    AppliesAnswer e k revisions done announced
IsAllowedMove e (editor_discards k) done announced =
    (done ≡ result_without_messages (editor_without_answer e k)) × (announced ≡ [])
