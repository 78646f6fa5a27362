-- Proves that the edits of a renaming leave a text whose module has the same runs.
use Rattle.std.proofs.Common.{◌≡◌, ◌⊎◌, ℕ, List, Option, Some, None, Result, Ok, Err, IfErr, Vec, Global, inl, inr, refl, subst, sym}
use Rattle.std.specs.Str.{chars, IsUtf8}
use Rattle.ob0_language_fields.specs.SingleFieldRenaming.{module_with_renamed_field}
use Rattle.ob0_rename.specs.Answers.{AreRenameEdits, IsRenameRefusal, RenameAnswers, WritesNewName}
use Rattle.ob0_rename.specs.Renaming.{Renaming, field_tokens_to_rename, renaming_at_place, tokens_to_rename}
use Rattle.ob0_language_names.specs.Names.{Name}
use Rattle.ob0_scope_table.specs.Resolution.{Resolution}
use Rattle.ob0_language_names.specs.Scopes.{renamed}
use Rattle.ob0_text.specs.declared.edits.Edit.{Edit}
use Rattle.ob0_text.specs.declared.position_types.Position.{Position}
use Rattle.ob0_text.specs.declared.position_types.Unit.{Unit}
use Rattle.ob0_text.specs.declared.refusals.EditRefusal.{EditRefusal}
use Rattle.ob0_text.specs.declared.refusals.EditRefusal.TheVariants.{Memory}
use Rattle.ob0_tree.specs.ParsedModule.{named_tree_of}
use Rattle.ob0_tree.specs.Tree.{Tree, module_text}
use Rattle.ob0_analysis.specs.AnalysisAnswers.{AnswersExactlyIfWellTyped, IsResolvedWellTypedModule}
use Rattle.ob0_analysis.specs.ReportedErrors.{IsTextOfTree, IsWellTypedModule}
use Rattle.ob0_analysis.specs.TextBytes.{utf8}
use Rattle.ob0_edits.specs.Renamings.{IsOptionalRenameResult, RenamesInText, IsRenameResult}
use Rattle.ob0_analysis.proofs.Scanning.{is_module, utf8_of}

-- A refusal that isn't a failed allocation is a reason not to rename.
not_memory : (r : Renaming) (refusal : EditRefusal) → (refusal ≡ Memory) ⊎ IsRenameRefusal r refusal → (refusal ≡ Memory → ⊥) → IsRenameRefusal r refusal
not_memory r refusal (inl wants) other = absurd (other wants)
not_memory r refusal (inr h) other = h

-- If no allocation failed, the result is edits or the refusal.
pub settled : (r : Renaming) (answer kept : Result (Vec Edit Global) EditRefusal) → RenameAnswers r answer → kept ≡ answer → IfErr kept (λ refusal. refusal ≡ Memory → ⊥) → IsRenameResult r kept
settled r answer (Ok edits) h is other = subst (λ (a : Result (Vec Edit Global) EditRefusal). RenameAnswers r a) (sym is) h
settled r answer (Err refusal) h is other = not_memory r refusal (subst (λ (a : Result (Vec Edit Global) EditRefusal). RenameAnswers r a) (sym is) h) other

-- If edits leave a text of a well-typed tree with the same runs, they rename in the text.
renames_in : (unit : Unit) (text : List ℕ) (place : Position) (new : List ℕ) (edits : List Edit) (names : Resolution) → IsResolvedWellTypedModule (utf8 text) names
    → AreRenameEdits (renaming_at_place unit text names place new) edits → (tokens : List ℕ) (tree : Tree Name module_text) → WritesNewName (renaming_at_place unit text names place new) tokens tree edits
    → RenamesInText unit text place new edits
renames_in unit text place new edits names h are tokens tree made =
    let after : List ℕ = chars made.after.text in
    let text_of : IsTextOfTree tree (utf8 after) =
    subst (λ (t : List ℕ). IsTextOfTree tree t) (utf8_of made.after.text after made.scan.utf8 refl) (record { scanned = made.after; scan = record { of = refl; scan = made.scan }; module_of = made.of_module })
    in
    record {
      names = names;
      read = h;
      are_edits = are;
      after = after;
      made = made.made;
      runs = record { old = is_module (utf8 text) names h; new = record { tree = tree; text_of = text_of; well_typed = made.well_typed }; same = made.same_runs };
    }

spellings_after_rename : (unit : Unit) (text : List ℕ) (place : Position) (new : List ℕ) (edits : List Edit) (names : Resolution) → IsResolvedWellTypedModule (utf8 text) names
    → AreRenameEdits (renaming_at_place unit text names place new) edits → RenamesInText unit text place new edits
spellings_after_rename unit text place new edits names h (inl (d, means, renames)) =
    renames_in unit text place new edits names h (inl (d, means, renames)) (tokens_to_rename names.module_read d new) (renamed (named_tree_of names.module_read) d new) renames.writes
spellings_after_rename unit text place new edits names h (inr (k, (f, means, renames))) =
    renames_in unit text place new edits names h (inr (k, (f, means, renames))) (field_tokens_to_rename names k f new) (module_with_renamed_field (named_tree_of names.module_read) k f new) renames.writes

pub new_name_found : (unit : Unit) (bytes text : List ℕ) (place : Position) (new : List ℕ) (found : Option (Result (Vec Edit Global) EditRefusal)) → IsUtf8 bytes → chars bytes ≡ text
    → AnswersExactlyIfWellTyped bytes (λ names outcome. IsRenameResult (renaming_at_place unit text names place new) outcome) found → IsOptionalRenameResult unit text place new found
new_name_found unit bytes text place new (Some (Ok edits)) u is h =
    spellings_after_rename unit text place new edits.items h.0 (subst (λ (t : List ℕ). IsResolvedWellTypedModule t h.0) (utf8_of bytes text u is) h.1) h.2
new_name_found unit bytes text place new (Some (Err refusal)) u is h =
    record { names = h.0; read = subst (λ (t : List ℕ). IsResolvedWellTypedModule t h.0) (utf8_of bytes text u is) h.1; refused = h.2 }
new_name_found unit bytes text place new None u is h =
    subst (λ (t : List ℕ). IsWellTypedModule t → ⊥) (utf8_of bytes text u is) h
