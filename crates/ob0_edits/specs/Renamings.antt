-- Defines the result of renaming a declaration or field in a text: the edits, or the refusal.
-- Rule: docs/PROTOCOL.md, Requests on documents 2, 6.
use Rattle.std.specs.Prelude.{◌≡◌, ℕ, List, Option, Some, None, Result, Ok, Err, Vec}
use Rattle.std.specs.declared.alloc.Global.{Global}
use Rattle.ob0_text.specs.Patches.{patched_text}
use Rattle.ob0_text.specs.Units.{width_of}
use Rattle.ob0_text.specs.declared.edits.Edit.{Edit}
use Rattle.ob0_text.specs.declared.position_types.Position.{Position}
use Rattle.ob0_text.specs.declared.position_types.Unit.{Unit}
use Rattle.ob0_text.specs.declared.refusals.EditRefusal.{EditRefusal}
use Rattle.ob0_scope_table.specs.Resolution.{Resolution}
use Rattle.ob0_analysis.specs.AnalysisAnswers.{IsResolvedWellTypedModule}
use Rattle.ob0_analysis.specs.ReportedErrors.{IsWellTypedModule}
use Rattle.ob0_analysis.specs.SameRuns.{RunsAsBefore}
use Rattle.ob0_analysis.specs.TextBytes.{utf8}
use Rattle.ob0_rename.specs.Answers.{AreRenameEdits, IsRenameRefusal}
use Rattle.ob0_rename.specs.Renaming.{Renaming, renaming_at_place}

-- States that the result is right for the renaming `r`: edits that rename the declaration or field,
-- or the refusal of the renaming.
abbrev pub IsRenameResult : Renaming → Result (Vec Edit Global) EditRefusal → Type 0
IsRenameResult r (Ok edits) = AreRenameEdits r edits.items
IsRenameResult r (Err refusal) = IsRenameRefusal r refusal

-- States that these edits rename the declaration or field at a position of a well-typed module to
-- `new`. Applied together, the edits give a text of the renamed module, which has the same runs.
pub record RenamesInText (unit : Unit) (text : List ℕ) (place : Position) (new : List ℕ)
    (edits : List Edit) : Type 0 where
  pub names : Resolution
  pub read : IsResolvedWellTypedModule (utf8 text) names
  pub are_edits : AreRenameEdits (renaming_at_place unit text names place new) edits
  pub after : List ℕ
  pub made : patched_text (width_of unit) text edits ≡ Some after
  pub runs : RunsAsBefore (utf8 text) (utf8 after)

-- States that the text is a well-typed module. Renaming the declaration or field at the position
-- `place` to `new` is refused for the reason `refusal`.
pub record IsRenameRefusedInText (unit : Unit) (text : List ℕ) (place : Position) (new : List ℕ)
    (refusal : EditRefusal) : Type 0 where
  pub names : Resolution
  pub read : IsResolvedWellTypedModule (utf8 text) names
  pub refused : IsRenameRefusal (renaming_at_place unit text names place new) refusal

-- States that this is the result of renaming the declaration or field at a position of a text:
-- edits, or the refusal. None means that the text isn't a well-typed module.
abbrev pub IsOptionalRenameResult : Unit
    → List ℕ
    → Position
    → List ℕ
    → Option (Result (Vec Edit Global) EditRefusal)
    → Type 0
IsOptionalRenameResult unit text place new (Some (Ok edits)) = RenamesInText unit text place new edits.items
IsOptionalRenameResult unit text place new (Some (Err refusal)) = IsRenameRefusedInText unit text place new refusal
IsOptionalRenameResult unit text place new None = ¬ IsWellTypedModule (utf8 text)
