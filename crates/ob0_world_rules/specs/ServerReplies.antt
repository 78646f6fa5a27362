-- Defines the messages that the server sends for each message that it takes.
-- Rule: docs/PROTOCOL.md, Documents, Publishing, Requests on documents.
use Rattle.std.specs.Prelude.{◌≡◌, ℕ, List, [], ◌∷◌, Bool, true, Option, Some, None, is_some, if◌then◌else◌}
use Rattle.ob0_text.specs.OpenDocuments.{OpenDocuments, Document, InStep, OutOfStep, DocumentEvent, Opened, Changed, Lost, Closed, document_at, documents_after_event}
use Rattle.ob0_world_rules.specs.TextEdits.{Replacement}
use Rattle.ob0_world_rules.specs.Answers.{IsAnswerForDocument, NoDiagnosticsExactlyIfWellTyped}
use Rattle.ob0_world_rules.specs.ClientAndServer.{MessageToServer, notifies, requests, MessageToEditor, publishes, answers, PublicationWithText}

-- States that the server sends the diagnostics of a document in step, with the document's version.
-- If the document is out of step (its text isn't known) or isn't open, the server sends nothing.
-- The list `made` has the same publication, with the text for which the diagnostics were made.
abbrev pub ServerSendsDiagnostics : List ℕ → Option Document → List MessageToEditor → List PublicationWithText → Type 0
ServerSendsDiagnostics uri (Some (InStep version text)) sent made =
    (empty : Bool) × NoDiagnosticsExactlyIfWellTyped text empty × (sent ≡ publishes uri (Some version) empty ∷ [])
    × (made ≡ record { uri = uri; version = version; text = text; no_diagnostics = empty } ∷ [])
ServerSendsDiagnostics uri (Some OutOfStep) sent made = (sent ≡ []) × (made ≡ [])
ServerSendsDiagnostics uri None sent made = (sent ≡ []) × (made ≡ [])

-- States that the server replies to this notification with the messages `sent`. The list `made` has
-- the publications with a version among these messages. `held` has the server's documents before
-- the notification. When an open document is closed, the server publishes an empty list of
-- diagnostics without a version.
abbrev pub ServerRepliesToNotification : OpenDocuments
    → DocumentEvent
    → List MessageToEditor
    → List PublicationWithText
    → Type 0
ServerRepliesToNotification held (Opened uri version text) sent made =
    ServerSendsDiagnostics uri (document_at (documents_after_event held (Opened uri version text)) uri) sent made
ServerRepliesToNotification held (Changed uri version how) sent made =
    ServerSendsDiagnostics uri (document_at (documents_after_event held (Changed uri version how)) uri) sent made
ServerRepliesToNotification held (Lost uri) sent made = (sent ≡ []) × (made ≡ [])
ServerRepliesToNotification held (Closed uri) sent made =
    (sent ≡ (if is_some (document_at held uri) then publishes uri None true ∷ [] else []))
    × (made ≡ [])

-- States that the server replies to this message with the messages `sent`. The list `made` has the
-- publications with a version among the messages `sent`. `held` has the server's documents before
-- the message.
abbrev pub ServerRepliesToMessage : OpenDocuments → MessageToServer → List MessageToEditor → List PublicationWithText → Type 0
ServerRepliesToMessage held (notifies note) sent made = ServerRepliesToNotification held note sent made
ServerRepliesToMessage held (requests number uri ask) sent made =
    (edits : List Replacement)
    × IsAnswerForDocument held.unit (document_at held uri) ask edits
    × (sent ≡ answers number edits ∷ [])
    × (made ≡ [])
