-- Defines the answer to each ask of an editor. An ask is a request for edits: a rename, an inlining
-- or a formatting.
-- Rule: docs/PROTOCOL.md, Requests on documents 6 to 10.
use Rattle.std.specs.Prelude.{◌≡◌, ◌⊎◌, ℕ, List, [], Bool, Option, Some, None, IsTrue, ◌↔◌, Vec}
use Rattle.std.specs.declared.alloc.Global.{Global}
use Rattle.ob0_text.specs.declared.position_types.Position.{Position}
use Rattle.ob0_text.specs.declared.position_types.Unit.{Unit}
use Rattle.ob0_text.specs.declared.edits.Edit.{Edit}
use Rattle.ob0_text.specs.declared.refusals.EditRefusal.{EditRefusal}
use Rattle.ob0_text.specs.OpenDocuments.{Document, InStep, OutOfStep}
use Rattle.ob0_text.specs.Texts.{offset_of}
use Rattle.ob0_text.specs.Units.{width_of}
use Rattle.ob0_edits.specs.Renamings.{RenamesInText, IsRenameRefusedInText}
use Rattle.ob0_edits.specs.InliningEdits.{InlinesInText, IsInliningRefusedInText}
use Rattle.ob0_edits.specs.FormattingEdits.{FormatsText, FormattedTextIsTooLong}
pub use Rattle.ob0_edits.specs.declared.inline_question.InliningKind.{InliningKind}
pub use Rattle.ob0_edits.specs.declared.inline_question.InliningKind.TheVariants.{OneUse, Everywhere}
use Rattle.ob0_world_rules.specs.WellTypedTexts.{WellTypedText}
use Rattle.ob0_world_rules.specs.TextEdits.{Replacement, replacements_of_edits}
use Rattle.ob0_world_rules.specs.Asks.{Ask, rename, inline_here, inline_all, format, clamped_indent}

-- returns the byte offset of a position in this text, counted from 0
abbrev pub position_offset : Unit → List ℕ → Position → ℕ
position_offset unit text position = offset_of (width_of unit) text position

-- States that these edits inline the constant whose name is at this position. `how` says whether
-- they replace only the use at this position, or all uses.
abbrev pub InlinesConstantAtPosition : InliningKind → Unit → List ℕ → Position → List Edit → Type 0
InlinesConstantAtPosition how unit text position edits =
    (found : Vec Edit Global)
    × InlinesInText how unit text (position_offset unit text position) found
    × (edits ≡ found.items)

-- States that these edits do what the ask (request for edits) requests. They rename a declaration
-- or field, inline a constant at one use or everywhere, or format the text.
abbrev pub AreRequestedEdits : Unit → List ℕ → Ask → List Edit → Type 0
AreRequestedEdits unit text (rename position name) edits = RenamesInText unit text position name edits
AreRequestedEdits unit text (inline_here position) edits = InlinesConstantAtPosition OneUse unit text position edits
AreRequestedEdits unit text (inline_all position) edits = InlinesConstantAtPosition Everywhere unit text position edits
AreRequestedEdits unit text (format indent) edits = FormatsText unit (clamped_indent indent) text edits

-- states that the server refuses this request for edits, because the new name or the inlining isn't
-- allowed, or because the formatted text would be too long
abbrev pub ServerRefusesAsk : Unit → List ℕ → Ask → Type 0
ServerRefusesAsk unit text (rename position name) =
    (refusal : EditRefusal) × IsRenameRefusedInText unit text position name refusal
ServerRefusesAsk unit text (inline_here position) =
    IsInliningRefusedInText OneUse unit text (position_offset unit text position)
ServerRefusesAsk unit text (inline_all position) =
    IsInliningRefusedInText Everywhere unit text (position_offset unit text position)
ServerRefusesAsk unit text (format indent) = FormattedTextIsTooLong (clamped_indent indent) text

-- States that the edits `given` answer this request for edits (`ask`) of the text. They are the
-- requested edits, or the empty list if the request is refused or the text isn't a well-typed
-- module.
abbrev pub IsAnswerForText : Unit → List ℕ → Ask → List Replacement → Type 0
IsAnswerForText unit text ask given =
    ((edits : List Edit) × AreRequestedEdits unit text ask edits × (given ≡ replacements_of_edits edits))
    ⊎ ((ServerRefusesAsk unit text ask ⊎ ¬ WellTypedText text) × (given ≡ []))

-- States that the edits `given` answer this request for edits (`ask`) of the document. If the
-- document is in step, they answer the request for its text (`IsAnswerForText`). If the document
-- isn't open (None) or is out of step (its text isn't known), `given` is empty.
abbrev pub IsAnswerForDocument : Unit → Option Document → Ask → List Replacement → Type 0
IsAnswerForDocument unit (Some (InStep version text)) ask given = IsAnswerForText unit text ask given
IsAnswerForDocument unit (Some OutOfStep) ask given = given ≡ []
IsAnswerForDocument unit None ask given = given ≡ []

-- States that a list of diagnostics is empty exactly if the text is a well-typed module. The flag
-- `empty` says whether the list is empty.
abbrev pub NoDiagnosticsExactlyIfWellTyped : List ℕ → Bool → Type 0
NoDiagnosticsExactlyIfWellTyped text empty = IsTrue empty ↔ WellTypedText text
