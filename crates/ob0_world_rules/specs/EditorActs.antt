-- Defines the acts of the model's editor, and the messages that it sends.
-- Rule: LSP 3.17, versioned documents: a model of a client.
use Rattle.std.specs.Prelude.{ℕ, suc, ◌+◌, ℤ, pos, negsuc, Bool, false, List, [], ◌∷◌, ◌++◌, ◌&&◌, ◌==◌, length, Option, Some, None, is_some, unwrap_or, if◌then◌else◌}
use Rattle.std.specs.FinMap as map_of
use Rattle.ob0_text.specs.OpenDocuments.{TextChange, Opened, Changed, Closed}
use Rattle.ob0_language_types.specs.Typing.{◌>>=◌}
use Rattle.ob0_world_rules.specs.TextEdits.{Replacement, text_after_edits, whole_text_change, text_after_changes}
use Rattle.ob0_world_rules.specs.Asks.{Ask}
use Rattle.ob0_world_rules.specs.ClientAndServer.{OpenDocument, SentAsk, ReceivedAnswer, Editor, sent_ask_with_number, editor_document_with_uri, MessageToServer, notifies, requests, MessageToEditor, publishes, answers, AppliedEdit}

-- an act of the editor, which concerns a document or an answer that the editor has received
pub data EditorAct : Type 0 where
  -- the uri and the text of the document
  open_document : List ℕ → List ℕ → EditorAct
  change_document : List ℕ → List TextChange → EditorAct
  close_document : List ℕ → EditorAct
  request_edits : List ℕ → Ask → EditorAct
  -- `apply` applies the answer to the request with this number, `discard` discards this answer
  apply : ℕ → EditorAct
  discard : ℕ → EditorAct

-- the result of an act: the editor after the act, the messages that are sent, and the edits that
-- are applied
pub record ActResult : Type 0 where
  pub editor : Editor
  pub sent : List MessageToServer
  pub applied : List AppliedEdit

-- returns the result of an act that sends nothing, applies nothing and leaves the editor as `e`
abbrev pub result_without_messages : Editor → ActResult
result_without_messages e = record { editor = e; sent = []; applied = [] }

-- returns the result of an act that sends one message, applies these edits and leaves the editor as
-- `e`
abbrev pub result_with_message : Editor → MessageToServer → List AppliedEdit → ActResult
result_with_message e message applied = record { editor = e; sent = message ∷ []; applied = applied }

-- returns a version as a natural number: 0 if the version is negative
abbrev pub version_as_natural : ℤ → ℕ
version_as_natural (pos n) = n
version_as_natural (negsuc n) = 0

-- returns the next version: greater by 1, or 1 after a negative version
abbrev pub next_version : ℤ → ℤ
next_version version = pos (version_as_natural version + 1)

-- returns whether two versions are equal
abbrev pub is_same_version : ℤ → ℤ → Bool
is_same_version (pos n) (pos m) = n == m
is_same_version (pos n) (negsuc m) = false
is_same_version (negsuc n) (pos m) = false
is_same_version (negsuc n) (negsuc m) = n == m

-- returns the result of opening a document, with version 1 and the next opening number
abbrev pub result_of_opening_document : Editor → List ℕ → List ℕ → ActResult
result_of_opening_document e uri text =
    let d : OpenDocument = record { version = pos 1; text = text; opening = e.openings + 1 } in
    result_with_message (record e { documents = map_of.insert e.documents uri d; openings = e.openings + 1 })
    (notifies (Opened uri (pos 1) text)) []

-- Returns the result of an act that gives the open document `d` this text and the next version. The
-- act notifies the server of the changes `how`. `applied` lists the edits that it applies.
abbrev pub result_of_changing_text : Editor → List ℕ → OpenDocument → List ℕ → List TextChange → List AppliedEdit → ActResult
result_of_changing_text e uri d text how applied =
    let new : OpenDocument = record d { version = next_version d.version; text = text } in
    result_with_message (record e { documents = map_of.insert e.documents uri new })
    (notifies (Changed uri new.version how)) applied

-- returns the result of closing the open document with this uri
abbrev pub result_of_closing_document : Editor → List ℕ → ActResult
result_of_closing_document e uri =
    result_with_message (record e { documents = map_of.remove e.documents uri }) (notifies (Closed uri)) []

-- Returns the result of sending the request for edits `ask` about the open document `d`. The
-- request gets the next number, and is appended to the editor's list `requested`.
abbrev pub result_of_sending_ask : Editor → List ℕ → Ask → OpenDocument → ActResult
result_of_sending_ask e uri ask d =
    let a : SentAsk = record {
      ask = ask;
      uri = uri;
      text = d.text;
      opening = d.opening;
      version = d.version;
    } in
    result_with_message (record e { requested = e.requested ++ a ∷ [] })
    (requests (suc (length e.requested)) uri ask) []

-- returns the edits of the first answer to request `k`, or None if the list has no such answer
abbrev pub edits_of_answer_to_request : ℕ → List ReceivedAnswer → Option (List Replacement)
edits_of_answer_to_request k [] = None
edits_of_answer_to_request k (a ∷ rest) = if a.number == k then Some a.edits else edits_of_answer_to_request k rest

-- removes the first answer to request `k` from the list; the other answers stay in their order
abbrev pub remove_answer_to_request : ℕ → List ReceivedAnswer → List ReceivedAnswer
remove_answer_to_request k [] = []
remove_answer_to_request k (a ∷ rest) = if a.number == k then rest else a ∷ remove_answer_to_request k rest

-- returns the editor without its first answer to request `k`
abbrev pub editor_without_answer : Editor → ℕ → Editor
editor_without_answer e k = record e { answers = remove_answer_to_request k e.answers }

-- returns the document if it still has the opening number and the version that are stored with the
-- request, otherwise None
abbrev pub document_if_unchanged_since_ask : SentAsk → OpenDocument → Option OpenDocument
document_if_unchanged_since_ask a d = if d.opening == a.opening && is_same_version d.version a.version then Some d else None

-- Returns the result of making the edits of an answer to request `k` in the request's document.
-- Returns None if there is no such request, or if its document isn't open. Also returns None if the
-- document's opening number or version has changed since the request, or if two edits share a
-- character.
abbrev pub result_of_applying_answer : Editor → ℕ → List Replacement → Option ActResult
result_of_applying_answer e k edits = do
  a ← sent_ask_with_number e.requested k
  d ← editor_document_with_uri e a.uri >>= document_if_unchanged_since_ask a
  text ← text_after_edits e.unit d.text edits
  let made : AppliedEdit = record { uri = a.uri; before = d.text; after = text }
  Some (result_of_changing_text e a.uri d text (whole_text_change text ∷ []) (made ∷ []))

-- Returns the result of an act. Nothing happens if the act opens a document that is open already,
-- or if it changes, closes or asks about a document that isn't open. `apply` and `discard` always
-- remove the answer, even if its edits can't be made.
abbrev pub act_result : Editor → EditorAct → ActResult
act_result e (open_document uri text) =
    if is_some (editor_document_with_uri e uri) then result_without_messages e else result_of_opening_document e uri text
act_result e (change_document uri how) = unwrap_or (do
  d ← editor_document_with_uri e uri
  text ← text_after_changes e.unit (Some d.text) how
  Some (result_of_changing_text e uri d text how [])) (result_without_messages e)
act_result e (close_document uri) =
    if is_some (editor_document_with_uri e uri) then result_of_closing_document e uri else result_without_messages e
act_result e (request_edits uri ask) = unwrap_or (do
  d ← editor_document_with_uri e uri
  Some (result_of_sending_ask e uri ask d)) (result_without_messages e)
act_result e (apply k) =
    let rest : Editor = editor_without_answer e k in
    unwrap_or (edits_of_answer_to_request k e.answers >>= result_of_applying_answer rest k) (result_without_messages rest)
act_result e (discard k) = result_without_messages (editor_without_answer e k)

-- Returns the editor after it has read a message. The editor stores an answer that has edits. Any
-- other message changes nothing.
abbrev pub editor_after_message : Editor → MessageToEditor → Editor
editor_after_message e (publishes uri version empty) = e
editor_after_message e (answers number []) = e
editor_after_message e (answers number (edit ∷ edits)) =
    record e { answers = e.answers ++ record { number = number; edits = edit ∷ edits } ∷ [] }
