-- States that the server will have the same documents as the editor once it has taken the messages
-- that wait for it. The documents then have the same uris, versions and texts.
-- Rule: none; a law of the model of client and server.
use Rattle.std.specs.Prelude.{◌≡◌, ℕ, List, option_map, fold}
use Rattle.ob0_text.specs.OpenDocuments.{OpenDocuments, Document, InStep, document_at}
use Rattle.ob0_world_rules.specs.ClientAndServer.{OpenDocument, editor_document_with_uri, ClientAndServer, documents_after_message}

-- returns the documents that the server will have once it has taken the messages that wait for it
abbrev pub documents_after_waiting_messages : ClientAndServer → OpenDocuments
documents_after_waiting_messages w = fold documents_after_message w.held w.to_server

-- Returns the document that the server should have for an open document of the editor: a document
-- in step (its text is known), with the same version and text.
abbrev pub in_step_document : OpenDocument → Document
in_step_document d = InStep d.version d.text

-- States that the server will have the same documents as the editor once it has taken the messages
-- that wait for it. For each uri, either both have a document with the same version and text, or
-- neither has a document.
abbrev pub ServerWillMirrorEditor : ClientAndServer → Type 0
ServerWillMirrorEditor w =
    (uri : List ℕ) → document_at (documents_after_waiting_messages w) uri ≡ option_map in_step_document (editor_document_with_uri w.editor uri)
