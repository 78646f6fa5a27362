-- Defines the outcome of a request about a document.
-- Rule: docs/PROTOCOL.md, Order of checks, and errors (`unopened`, `out of step`).
use Rattle.std.specs.Prelude.{◌≡◌, ℕ, ℤ, List, Some, None}
use Rattle.ob0_text.specs.OpenDocuments.{OpenDocuments, document_at}
use Rattle.ob0_text.specs.OpenDocuments as is
use Rattle.ob0_text.specs.declared.position_types.Unit.{Unit}
use Rattle.ob0_session_documents.specs.declared.document_requests.RequestOutcome.{RequestOutcome}
use Rattle.ob0_session_documents.specs.declared.document_requests.RequestOutcome.TheVariants.{Answered, OutOfStep, Unopened}

-- States that a request about the document with this uri may have this outcome. If the document is
-- open and in step (its text is known), the outcome is a message. The parameter `answers` states
-- which messages answer the request for the document's version and text. If the document is out of
-- step, the outcome is `OutOfStep`. If it isn't open, the outcome is `Unopened`.
abbrev pub IsOutcomeOfRequest : (ℤ → Unit → List ℕ → List ℕ → Type 0)
    → OpenDocuments
    → List ℕ
    → RequestOutcome
    → Type 0
IsOutcomeOfRequest answers documents uri (Answered message) =
    (version : ℤ) × (text : List ℕ)
    × (document_at documents uri ≡ Some (is.InStep version text))
    × answers version documents.unit text message.items
IsOutcomeOfRequest answers documents uri OutOfStep = document_at documents uri ≡ Some is.OutOfStep
IsOutcomeOfRequest answers documents uri Unopened = document_at documents uri ≡ None
