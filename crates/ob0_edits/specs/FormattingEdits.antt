-- Defines the edits that format a text, and the resulting text.
-- Rule: docs/PROTOCOL.md, Requests on documents 8, 10.
use Rattle.std.specs.Prelude.{◌≡◌, ◌<◌, ℕ, List, Option, Some, None, Result, Ok, Err, Vec, map, length}
use Rattle.std.specs.declared.alloc.Global.{Global}
use Rattle.ob0_scan.specs.TextWithTokens.{max_text_length}
use Rattle.ob0_text.specs.Patches.{patched_text}
use Rattle.ob0_text.specs.Units.{width_of}
use Rattle.ob0_text.specs.declared.edits.Edit.{Edit}
use Rattle.ob0_text.specs.declared.edits.Indent.{Indent}
use Rattle.ob0_text.specs.declared.position_types.Range.{Range}
use Rattle.ob0_text.specs.declared.position_types.Unit.{Unit}
use Rattle.ob0_text.specs.declared.refusals.EditRefusal.{EditRefusal}
use Rattle.ob0_text.specs.declared.refusals.EditRefusal.TheVariants.{TooLong}
use Rattle.ob0_edits_tokens.specs.ByteCuts.{edit_of_cut}
use Rattle.ob0_edits_tokens.specs.Replacements.{range_and_text}
use Rattle.ob0_layout.specs.Layout.{formatted_text}
use Rattle.ob0_layout.specs.Gaps.{changed_gaps, all_gaps}
use Rattle.ob0_layout.specs.LineRoles.{line_roles}
use Rattle.ob0_analysis.specs.ReportedErrors.{IsTextOfTree, IsWellTypedModule}
use Rattle.ob0_analysis.specs.TextBytes.{utf8}
use Rattle.ob0_analysis.specs.SameRuns.{RunsAsBefore}

-- Returns the formatted text of a module, as a list of bytes.
abbrev pub formatted_text_of_module : {text : List ℕ} → Indent → IsWellTypedModule text → List ℕ
formatted_text_of_module indent m = formatted_text indent m.tree m.text_of.scan.scan.lexemes

-- Returns one edit for each gap (white space between lexemes) that formatting changes. An edit is
-- the gap's range, with positions counted in `unit`, and the gap's new text.
abbrev pub edits_of_changed_gaps : {text : List ℕ}
    → Unit
    → Indent
    → List ℕ
    → IsWellTypedModule text
    → List (Range × List ℕ)
edits_of_changed_gaps unit indent characters m =
    let source = m.text_of.scanned in
    map (edit_of_cut unit characters) (changed_gaps source.text
    (all_gaps indent source.text (line_roles 0 m.tree) m.text_of.scan.scan.lexemes))

-- States that these edits format a text. For each gap (white space between lexemes) that changes,
-- there is one edit, which replaces the whole gap. Applied together, the edits give the formatted
-- text. The formatted text has the same module, with the same runs.
pub record FormatsText (unit : Unit) (indent : Indent) (text : List ℕ)
    (edits : List Edit) : Type 0 where
  pub before : IsWellTypedModule (utf8 text)
  pub changes : map range_and_text edits ≡ edits_of_changed_gaps unit indent text before
  pub after : List ℕ
  pub made : patched_text (width_of unit) text edits ≡ Some after
  pub is_formatted_text : utf8 after ≡ formatted_text_of_module indent before
  pub same_module : IsTextOfTree before.tree (utf8 after)
  pub runs : RunsAsBefore (utf8 text) (utf8 after)

-- States that the text is a well-typed module whose formatted text is longer than a text may be.
pub record FormattedTextIsTooLong (indent : Indent) (text : List ℕ) : Type 0 where
  pub before : IsWellTypedModule (utf8 text)
  pub long : max_text_length < length (formatted_text_of_module indent before)

-- States that the answer to a request for formatting is right. Edits are right if they format the
-- module. The refusal `TooLong` is right if the formatted text is too long. No other refusal is
-- right.
abbrev pub IsFormatResult : Unit → Indent → List ℕ → Result (Vec Edit Global) EditRefusal → Type 0
IsFormatResult unit indent text (Ok edits) = FormatsText unit indent text edits.items
IsFormatResult unit indent text (Err refusal) = (refusal ≡ TooLong) × FormattedTextIsTooLong indent text

-- States that this is the result of formatting a text: edits, or the only possible refusal,
-- `TooLong`. None means that the text isn't a well-typed module.
abbrev pub IsOptionalFormatResult : Unit
    → Indent
    → List ℕ
    → Option (Result (Vec Edit Global) EditRefusal)
    → Type 0
IsOptionalFormatResult unit indent text (Some outcome) = IsFormatResult unit indent text outcome
IsOptionalFormatResult unit indent text None = ¬ IsWellTypedModule (utf8 text)
