-- Defines the edits that inline a constant, at one use or everywhere, and the resulting text.
-- Rule: docs/PROTOCOL.md, Requests on documents 7, 9, 10.
use Rattle.std.specs.Prelude.{◌≡◌, ℕ, List, Option, Some, None, Result, Ok, Err, Vec}
use Rattle.std.specs.declared.alloc.Global.{Global}
use Rattle.ob0_text.specs.Patches.{patched_text}
use Rattle.ob0_text.specs.Units.{width_of}
use Rattle.ob0_text.specs.declared.edits.Edit.{Edit}
use Rattle.ob0_text.specs.declared.position_types.Unit.{Unit}
use Rattle.ob0_text.specs.declared.refusals.EditRefusal.{EditRefusal}
use Rattle.ob0_text.specs.declared.refusals.EditRefusal.TheVariants.{Memory}
use Rattle.ob0_tree.specs.ParsedModule.{ParsedModule}
use Rattle.ob0_inline.specs.Everywhere.{AnswersInliningEverywhere}
use Rattle.ob0_inline.specs.Uses.{AnswersInliningHere}
use Rattle.ob0_analysis.specs.TextBytes.{utf8}
use Rattle.ob0_analysis.specs.AnalysisAnswers.{IsParsedWellTypedModule}
use Rattle.ob0_analysis.specs.ReportedErrors.{IsWellTypedModule}
use Rattle.ob0_analysis.specs.SameRuns.{RunsAsBefore}
use Rattle.ob0_edits.specs.declared.inline_question.InliningKind.{InliningKind}
use Rattle.ob0_edits.specs.declared.inline_question.InliningKind.TheVariants.{OneUse, Everywhere}
use Rattle.ob0_edits.specs.declared.inline_question.InliningEdits as found_inlinings

-- States that `answer`, edits or a refusal, is right for a request for this kind of inlining at a
-- byte offset of the module. `ob0_inline` defines which answers are right.
abbrev pub AnswersInlining : InliningKind
    → Unit
    → List ℕ
    → ParsedModule
    → ℕ
    → Result (Vec Edit Global) EditRefusal
    → Type 0
AnswersInlining OneUse unit text m offset answer = AnswersInliningHere unit text m offset answer
AnswersInlining Everywhere unit text m offset answer = AnswersInliningEverywhere unit text m offset answer

-- States that these edits are the right answer to an inlining at a byte offset of a module. None
-- means that the inlining is refused, but not because an allocation failed.
abbrev pub IsInlineResult : InliningKind → Unit → List ℕ → ParsedModule → ℕ → Option (Vec Edit Global) → Type 0
IsInlineResult how unit text m offset (Some edits) = AnswersInlining how unit text m offset (Ok edits)
IsInlineResult how unit text m offset None =
    (refusal : EditRefusal)
    × ¬ (refusal ≡ Memory)
    × AnswersInlining how unit text m offset (Err refusal)

-- States that these edits inline the constant at a byte offset of a well-typed module. Applied
-- together, the edits give a text whose module has the same runs.
pub record InlinesInText (how : InliningKind) (unit : Unit) (text : List ℕ) (offset : ℕ)
    (edits : Vec Edit Global) : Type 0 where
  pub module_read : ParsedModule
  pub read : IsParsedWellTypedModule (utf8 text) module_read
  pub inlines : IsInlineResult how unit text module_read offset (Some edits)
  pub after : List ℕ
  pub made : patched_text (width_of unit) text edits.items ≡ Some after
  pub runs : RunsAsBefore (utf8 text) (utf8 after)

-- States that the text is a well-typed module, and that inlining the constant at this byte offset
-- is refused, but not because an allocation failed.
pub record IsInliningRefusedInText (how : InliningKind) (unit : Unit) (text : List ℕ) (offset : ℕ) : Type 0 where
  pub module_read : ParsedModule
  pub read : IsParsedWellTypedModule (utf8 text) module_read
  pub refused : IsInlineResult how unit text module_read offset None

-- ---- answers to inlining at a byte offset of a text: edits or None

-- States that `answer` consists of these edits (Some). None means that `answer` is a refusal other
-- than `Memory` (a failed allocation).
abbrev pub AreEditsUnlessRefused : Result (Vec Edit Global) EditRefusal → Option (Vec Edit Global) → Type 0
AreEditsUnlessRefused answer (Some edits) = answer ≡ Ok edits
AreEditsUnlessRefused answer None = (refusal : EditRefusal) × ¬ (refusal ≡ Memory) × (answer ≡ Err refusal)

-- States that these edits inline the constant at a byte offset of the text. None means that the
-- text is a well-typed module, and that this inlining is refused, but not because an allocation
-- failed.
abbrev pub IsInlineResultInText : InliningKind → Unit → List ℕ → ℕ → Option (Vec Edit Global) → Type 0
IsInlineResultInText how unit text offset (Some edits) = InlinesInText how unit text offset edits
IsInlineResultInText how unit text offset None = IsInliningRefusedInText how unit text offset

-- States that these are the results of both kinds of inlining at a byte offset of a text. None
-- means that the text isn't a well-typed module.
abbrev pub AreOptionalInlineResults : Unit → List ℕ → ℕ → Option found_inlinings.InliningEdits → Type 0
AreOptionalInlineResults unit text offset (Some found) =
    IsInlineResultInText OneUse unit text offset found.here × IsInlineResultInText Everywhere unit text offset found.everywhere
AreOptionalInlineResults unit text offset None = ¬ IsWellTypedModule (utf8 text)
