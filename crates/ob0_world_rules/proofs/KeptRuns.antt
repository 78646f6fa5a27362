-- Proves that the edits of an answer keep the run of the text's module.
use Rattle.std.proofs.Common.{◌≡◌, ◌∙◌, ℕ, List, [], sym, subst, inl, inr}
use Rattle.std.specs.Prelude.{◌⊎◌, Some}
use Rattle.ob0_text.specs.declared.edits.Edit.{Edit}
use Rattle.ob0_text.specs.declared.position_types.Unit.{Unit}
use Rattle.ob0_text.specs.Units.{width_of}
use Rattle.ob0_text.specs.Patches.{patched_text}
use Rattle.ob0_edits.specs.SameRuns.{RunsAsBefore}
use Rattle.ob0_edits.specs.TextBytes.{utf8}
use Rattle.ob0_world_rules.specs.TextEdits.{Replacement, replacements_of_edits}
use Rattle.ob0_world_rules.proofs.EditedTexts.{edited_as_patched}
use Rattle.ob0_world_rules.specs.Asks.{Ask, rename, inline_here, inline_all, format}
use Rattle.ob0_world_rules.specs.Answers.{AreRequestedEdits, IsAnswerForText}
use Rattle.ob0_world_rules.specs.Laws.{EditsPreserveRun}
use Rattle.ob0_world_rules.proofs.ModuleTexts.{well_typed_text}
use Rattle.ob0_world_rules.proofs.Trees.{same_run}

-- Edits preserve the run if the text that they make runs as before.
runs_kept : (unit : Unit) (text after : List ℕ) (edits : List Edit) → patched_text (width_of unit) text edits ≡ Some after → RunsAsBefore (utf8 text) (utf8 after) → EditsPreserveRun unit text (replacements_of_edits edits)
runs_kept unit text after edits made runs =
    record {
      before_is_well_typed = well_typed_text text runs.old;
      after = after;
      makes = edited_as_patched unit text edits ∙ made;
      after_is_well_typed = well_typed_text after runs.new;
      same = same_run text after runs;
    }

pub answer_edits_preserve_run : (unit : Unit) (text : List ℕ) (ask : Ask) (edits : List Edit) → AreRequestedEdits unit text ask edits → EditsPreserveRun unit text (replacements_of_edits edits)
answer_edits_preserve_run unit text (rename position name) edits found = runs_kept unit text found.after edits found.made found.runs
answer_edits_preserve_run unit text (inline_here position) edits (list, found, is) = subst (λ es. EditsPreserveRun unit text (replacements_of_edits es)) (sym is) (runs_kept unit text found.after list.items found.made found.runs)
answer_edits_preserve_run unit text (inline_all position) edits (list, found, is) = subst (λ es. EditsPreserveRun unit text (replacements_of_edits es)) (sym is) (runs_kept unit text found.after list.items found.made found.runs)
answer_edits_preserve_run unit text (format indent) edits found = runs_kept unit text found.after edits found.made found.runs

-- An answer about a text has no edits, or edits that preserve its run.
pub answer_keeps : (unit : Unit) (text : List ℕ) (ask : Ask) (given : List Replacement) → IsAnswerForText unit text ask given → (given ≡ []) ⊎ EditsPreserveRun unit text given
answer_keeps unit text ask given (inl (edits, found, is)) = inr (subst (EditsPreserveRun unit text) (sym is) (answer_edits_preserve_run unit text ask edits found))
answer_keeps unit text ask given (inr (why, none)) = inl none
