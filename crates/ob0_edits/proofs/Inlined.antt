-- Proves that the edits that inline a constant leave a text whose module has the same runs.
use Rattle.std.proofs.Common.{◌≡◌, ℕ, List, Option, Some, None, Result, Vec, Global, inl, inr, refl, subst}
use Rattle.std.specs.Str.{chars, IsUtf8}
use Rattle.ob0_inline.specs.Everywhere.{tree_inlined_everywhere}
use Rattle.ob0_inline.specs.EditedModuleTexts.{EditedTextHasTree}
use Rattle.ob0_inline.specs.Uses.{tree_with_inlined_use}
use Rattle.ob0_language_runs.specs.EditLaws.{HaveSameRuns}
use Rattle.ob0_language_names.specs.Names.{Name}
use Rattle.ob0_scope_table.specs.Resolution.{Resolution}
use Rattle.ob0_text.specs.declared.edits.Edit.{Edit}
use Rattle.ob0_text.specs.declared.position_types.Unit.{Unit}
use Rattle.ob0_text.specs.declared.refusals.EditRefusal.{EditRefusal}
use Rattle.ob0_tree.specs.ParsedModule.{ParsedModule, named_tree_of}
use Rattle.ob0_tree.specs.Tree.{Tree, module_text}
use Rattle.ob0_language_types.specs.WellTyped.{WellTyped}
use Rattle.ob0_edits.specs.InliningEdits.{AnswersInlining, AreOptionalInlineResults, IsInlineResult, InlinesInText, AreEditsUnlessRefused, IsInlineResultInText}
use Rattle.ob0_analysis.specs.AnalysisAnswers.{AnswersExactlyIfWellTyped, IsResolvedWellTypedModule, IsParsedWellTypedModule}
use Rattle.ob0_analysis.specs.ReportedErrors.{IsTextOfTree, IsWellTypedModule}
use Rattle.ob0_analysis.specs.TextBytes.{utf8}
use Rattle.ob0_edits.specs.declared.inline_question.InliningKind.{InliningKind}
use Rattle.ob0_edits.specs.declared.inline_question.InliningKind.TheVariants.{OneUse, Everywhere}
use Rattle.ob0_edits.specs.declared.inline_question.InliningEdits.{InliningEdits}
use Rattle.ob0_analysis.proofs.Scanning.{is_module, utf8_of}

-- ---- the edits that an answer offers

pub offered_of : (how : InliningKind) (unit : Unit) (text : List ℕ) (m : ParsedModule) (offset : ℕ) (answer : Result (Vec Edit Global) EditRefusal) (edits : Option (Vec Edit Global))
    → AnswersInlining how unit text m offset answer → AreEditsUnlessRefused answer edits → IsInlineResult how unit text m offset edits
offered_of how unit text m offset answer (Some edits) h is = subst (λ (a : Result (Vec Edit Global) EditRefusal). AnswersInlining how unit text m offset a) is h
offered_of how unit text m offset answer None h (refusal, other, is) = (refusal, other, subst (λ (a : Result (Vec Edit Global) EditRefusal). AnswersInlining how unit text m offset a) is h)

-- ---- from the module to its text

pub read_as : (text : List ℕ) (names : Resolution) → IsResolvedWellTypedModule text names → IsParsedWellTypedModule text names.module_read
read_as text names h = record { scan = h.scan; parsed = h.well_typed.resolved.parsed; well_typed = h.well_typed.well_typed }

-- Edits that leave the text of a module with the same runs inline the constant.
kept : (how : InliningKind) (unit : Unit) (text : List ℕ) (offset : ℕ) (edits : Vec Edit Global) (names : Resolution) (t : Tree Name module_text) → IsResolvedWellTypedModule (utf8 text) names
    → EditedTextHasTree unit text edits.items t → WellTyped t → HaveSameRuns t (named_tree_of names.module_read) → IsInlineResult how unit text names.module_read offset (Some edits) → InlinesInText how unit text offset edits
kept how unit text offset edits names t h leaves well same inlines =
    let after : List ℕ = chars leaves.after.text in
    let text_of : IsTextOfTree t (utf8 after) =
    subst (λ (w : List ℕ). IsTextOfTree t w) (utf8_of leaves.after.text after leaves.scan.utf8 refl) (record { scanned = leaves.after; scan = record { of = refl; scan = leaves.scan }; module_of = leaves.module_of })
    in
    record {
      module_read = names.module_read;
      read = read_as (utf8 text) names h;
      inlines = inlines;
      after = after;
      made = leaves.made;
      runs = record { old = is_module (utf8 text) names h; new = record { tree = t; text_of = text_of; well_typed = well }; same = same };
    }

inlines_in : (how : InliningKind) (unit : Unit) (text : List ℕ) (offset : ℕ) (edits : Vec Edit Global) (names : Resolution) → IsResolvedWellTypedModule (utf8 text) names
    → IsInlineResult how unit text names.module_read offset (Some edits) → InlinesInText how unit text offset edits
inlines_in OneUse unit text offset edits names h (inl (u, at, answer)) =
    kept OneUse unit text offset edits names (tree_with_inlined_use names.module_read u) h answer.1.leaves answer.1.well_typed answer.1.same_runs (inl (u, at, answer))
inlines_in OneUse unit text offset edits names h (inr (is, none)) = cc
inlines_in Everywhere unit text offset edits names h (inl (c, at, answer)) =
    kept Everywhere unit text offset edits names (tree_inlined_everywhere names.module_read c) h answer.1.leaves answer.1.well_typed answer.1.same_runs (inl (c, at, answer))
inlines_in Everywhere unit text offset edits names h (inr (is, none)) = cc

offers : (how : InliningKind) (unit : Unit) (text : List ℕ) (offset : ℕ) (edits : Option (Vec Edit Global)) (names : Resolution) → IsResolvedWellTypedModule (utf8 text) names
    → IsInlineResult how unit text names.module_read offset edits → IsInlineResultInText how unit text offset edits
offers how unit text offset (Some edits) names h inlines = inlines_in how unit text offset edits names h inlines
offers how unit text offset None names h refused = record { module_read = names.module_read; read = read_as (utf8 text) names h; refused = refused }

pub inlinings_found : (unit : Unit) (bytes text : List ℕ) (offset : ℕ) (found : Option InliningEdits) → IsUtf8 bytes → chars bytes ≡ text
    → AnswersExactlyIfWellTyped bytes (λ names answer. IsInlineResult OneUse unit text names.module_read offset answer.here × IsInlineResult Everywhere unit text names.module_read offset answer.everywhere) found
    → AreOptionalInlineResults unit text offset found
inlinings_found unit bytes text offset (Some found) u is h =
    let names : Resolution = h.0 in
    let module_in : IsResolvedWellTypedModule (utf8 text) names = subst (λ (t : List ℕ). IsResolvedWellTypedModule t names) (utf8_of bytes text u is) h.1 in
    (offers OneUse unit text offset found.here names module_in h.2.0, offers Everywhere unit text offset found.everywhere names module_in h.2.1)
inlinings_found unit bytes text offset None u is h = subst (λ (t : List ℕ). IsWellTypedModule t → ⊥) (utf8_of bytes text u is) h
