-- Converts the open documents that the code stores to the model's open documents. Also defines an
-- encoding (`Coded`) of the model's open documents.
-- Rule: none; used in contracts that relate the code's values to the model's.
use Rattle.std.specs.Prelude.{ℕ, ℤ, pos, List, map, string_bytes, String, refl}
use Rattle.std.specs.Str.{chars}
use Rattle.std.specs.FinMap as map_of
use Rattle.std.specs.Coded.{Coded, code_by, coded×, coded_ℕ, coded_ℤ, coded_list}
use Rattle.ob0_world_editor.specs.declared.documents.OpenDocument as stored
use Rattle.ob0_world_rules.specs.ClientAndServer.{OpenDocument, EditorDocuments}

-- converts an open document from the code's type `OpenDocument` to the model's type `OpenDocument`
abbrev pub model_document_of : stored.OpenDocument → OpenDocument
model_document_of d =
    record { version = pos d.version; text = chars (string_bytes d.text); opening = d.opening }

-- Converts the entries of the code's map of open documents to the model's map. Each entry is a uri
-- and a document. The keys of the model's map are the bytes of the uris.
abbrev pub model_documents_of : {A : Type 0} → List (String A × stored.OpenDocument) → EditorDocuments
model_documents_of entries =
    map_of.from_entries (map (λ e. (string_bytes e.0, model_document_of e.1)) entries)

-- the encoding of an open document as a tuple of its version, text and opening number
abbrev pub coded_open_document : Coded OpenDocument
coded_open_document =
    code_by (ℤ × (List ℕ × ℕ)) (coded× coded_ℤ (coded× (coded_list coded_ℕ) coded_ℕ))
    (λ d. (d.version, (d.text, d.opening)))
    (λ p. record { version = p.0; text = p.1.0; opening = p.1.1 }) (λ d. refl)

-- the encoding of the model's map of open documents as a map of encoded documents
abbrev pub coded_editor_documents : Coded EditorDocuments
coded_editor_documents = map_of.code (coded_list coded_ℕ) coded_open_document
