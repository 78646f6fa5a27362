-- Converts a stored document (`StoredDocument`) or a borrowed document (`Held`) of the code to the
-- `Document` that contracts use. Also states that a document's positions are counted in a given
-- unit.
-- Rule: none; used in contracts about stored and borrowed documents.
use Rattle.std.specs.Prelude.{◌≡◌, ℕ, List, map, string_bytes, String, Option, Some, None}
use Rattle.std.specs.Option.{option_map}
use Rattle.std.specs.FinMap as map_of
use Rattle.std.specs.BTreeMap.{BTreeMap}
use Rattle.std.specs.BTreeMap as tree
use Rattle.ob0_text.specs.declared.documents.StoredDocument.{StoredDocument}
use Rattle.ob0_text.specs.declared.documents.Held.{Held}
use Rattle.ob0_text.specs.declared.documents.Held.TheVariants as stored
use Rattle.ob0_text.specs.declared.position_types.Unit as units
use Rattle.ob0_text.specs.OpenDocuments.{Documents, Document, InStep, OutOfStep, document_with_text}

-- Returns the `Document` that contracts use for a stored document. It has the version and the text,
-- or is out of step if no text is stored. `content` returns the characters of a stored text.
abbrev pub document_of_stored : {T : Type 0} → (T → List ℕ) → StoredDocument T → Document
document_of_stored content entry = document_with_text entry.version (option_map content entry.text)

-- Returns the map from uris to documents that contracts use for a list of uris and stored
-- documents. `content` returns the characters of a stored text.
abbrev pub documents_of_entries : {T A : Type 0}
    → (T → List ℕ)
    → List (String A × StoredDocument T)
    → Documents
documents_of_entries content entries =
    map_of.from_entries (map (λ e. (string_bytes e.0, document_of_stored content e.1)) entries)

-- Returns the `Document` that contracts use for a borrowed document. `content` returns the
-- characters of the borrowed text.
abbrev pub document_of_held : {T : Type 0} → (T → List ℕ) → Held T → Document
document_of_held content (stored.InStep version text) = InStep version (content text.now)
document_of_held content stored.OutOfStep = OutOfStep

-- States that the positions in a stored text are counted in this unit, or that no text is stored
-- (None). `unit_of` returns the unit of a stored text.
abbrev pub StoredTextUsesUnit : {T : Type 0} → (T → units.Unit) → units.Unit → Option T → Type 0
StoredTextUsesUnit unit_of unit text = (store : _) → text ≡ Some store → unit_of store ≡ unit

-- States that each document in the map has a text whose positions are counted in this unit, or has
-- no stored text. `unit_of` returns the unit of a stored text.
abbrev pub AllStoredTextsUseUnit : {T A : Type 0}
    → (T → units.Unit)
    → units.Unit
    → BTreeMap (String A) (StoredDocument T)
    → Type 0
AllStoredTextsUseUnit unit_of unit m =
    (uri : List ℕ) (entry : _)
    → tree.get_by_text m uri ≡ Some entry
    → StoredTextUsesUnit unit_of unit entry.text

-- States that the positions in a borrowed document's text are counted in this unit. A document that
-- is out of step or doesn't exist (None) also meets this condition. `unit_of` returns the unit of a
-- borrowed text.
abbrev pub HeldTextUsesUnit : {T : Type 0} → (T → units.Unit) → units.Unit → Option (Held T) → Type 0
HeldTextUsesUnit unit_of unit None = Unit {0}
HeldTextUsesUnit unit_of unit (Some (stored.InStep version text)) = unit_of text.now ≡ unit
HeldTextUsesUnit unit_of unit (Some stored.OutOfStep) = Unit {0}
