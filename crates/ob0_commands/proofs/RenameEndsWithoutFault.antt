-- Proves that `rename` prints a text only if the edits put the new name into the file's text. If
-- the renaming is refused, no text is printed.
use Rattle.std.proofs.Common.{◌≡◌, ◌∙◌, ◌≤◌, ℕ, List, Option, Some, Result, Ok, Err, Vec, Global, length, subst}
use Rattle.std.proofs.lemmas.Str.{encodes-chars}
use Rattle.std.specs.Str.{IsUtf8, chars}
use Rattle.ob0_text.specs.declared.edits.Edit.{Edit}
use Rattle.ob0_text.specs.declared.position_types.Position.{Position}
use Rattle.ob0_text.specs.declared.position_types.Unit.{Unit}
use Rattle.ob0_text.specs.declared.position_types.Unit.TheVariants.{Utf16}
use Rattle.ob0_text.specs.declared.refusals.EditRefusal.{EditRefusal}
use Rattle.ob0_scan.specs.TextWithTokens.{IsScanOf, TextWithTokens, max_text_length}
use Rattle.ob0_analysis.specs.TextBytes.{utf8}
use Rattle.ob0_edits.specs.Renamings.{IsOptionalRenameResult}
use Rattle.ob0_commands.specs.RenameOutput.{IsErrAndPrintsRefusal, IsOkAndPrintsPatchedText, PrintsRenamedText, RefusesRenaming}
use Rattle.ob0_commands.specs.Statuses.{IsTextFile}

-- A scanned text isn't too long.
text_file : (text : List ℕ) (s : TextWithTokens) → IsUtf8 text → IsScanOf (utf8 (chars text)) s → IsTextFile text
text_file text s u scan = (subst (λ (t : List ℕ). length t ≤ max_text_length) (scan.of ∙ encodes-chars text u) scan.scan.short, u)

-- The result for a store in UTF-16 units that holds the text is a result for the text.
pub found_in_text : (unit : Unit) (content text : List ℕ) (place : Position) (new : List ℕ) (found : Option (Result (Vec Edit Global) EditRefusal)) (outcome : Result (Vec Edit Global) EditRefusal)
    → unit ≡ Utf16 → content ≡ chars text → found ≡ Some outcome → IsOptionalRenameResult unit content place new found → IsOptionalRenameResult Utf16 (chars text) place new (Some outcome)
found_in_text unit content text place new found outcome counts holds is h =
    let here : IsOptionalRenameResult unit content place new (Some outcome) = subst (λ (a : Option (Result (Vec Edit Global) EditRefusal)). IsOptionalRenameResult unit content place new a) is h in
    let in_unit : IsOptionalRenameResult Utf16 content place new (Some outcome) = subst (λ (u : Unit). IsOptionalRenameResult u content place new (Some outcome)) counts here in
    subst (λ (t : List ℕ). IsOptionalRenameResult Utf16 t place new (Some outcome)) holds in_unit

pub edited_in_text : (unit : Unit) (content text : List ℕ) (outcome : Result (Vec Edit Global) EditRefusal) (before after : Option (List ℕ))
    → unit ≡ Utf16 → content ≡ chars text → IsOkAndPrintsPatchedText unit content outcome before after → IsOkAndPrintsPatchedText Utf16 (chars text) outcome before after
edited_in_text unit content text outcome before after counts holds h =
    let in_unit : IsOkAndPrintsPatchedText Utf16 content outcome before after = subst (λ (u : Unit). IsOkAndPrintsPatchedText u content outcome before after) counts h in
    subst (λ (t : List ℕ). IsOkAndPrintsPatchedText Utf16 t outcome before after) holds in_unit

pub prints_renamed : (text : List ℕ) (place : Position) (new : List ℕ) (outcome : Result (Vec Edit Global) EditRefusal) (before after : Option (List ℕ))
    → IsUtf8 text → IsOptionalRenameResult Utf16 (chars text) place new (Some outcome) → IsOkAndPrintsPatchedText Utf16 (chars text) outcome before after → PrintsRenamedText text place new before after
prints_renamed text place new (Ok edits) before after u h p = record { has_text = text_file text h.names.module_read.source u h.read.scan; edits = edits.items; rename = h; prints = p }
prints_renamed text place new (Err refusal) before after u h p = absurd p

pub refuses_name : (text : List ℕ) (place : Position) (new : List ℕ) (outcome : Result (Vec Edit Global) EditRefusal) (before after : Option (List ℕ))
    → IsUtf8 text → IsOptionalRenameResult Utf16 (chars text) place new (Some outcome) → (IsPrintedOnStderr : Option (List ℕ) → Type 0) → IsErrAndPrintsRefusal outcome IsPrintedOnStderr → after ≡ before → RefusesRenaming text place new before after IsPrintedOnStderr
refuses_name text place new (Ok edits) before after u h IsPrintedOnStderr p e = absurd p
refuses_name text place new (Err refusal) before after u h IsPrintedOnStderr p e = record { has_text = text_file text h.names.module_read.source u h.read.scan; refusal = refusal; refused = h; nothing = e; said = p }
