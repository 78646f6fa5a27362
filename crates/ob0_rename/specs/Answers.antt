-- Defines the answer to the renaming of a declaration or a field: edits, or a refusal.
-- Rule: docs/PROTOCOL.md, Requests on documents 6, Refusals of edits.
use Rattle.std.specs.Prelude.{◌≡◌, ◌⊎◌, ℕ, ◌<◌, ◌≤◌, List, Some, Result, Ok, Err, IfErr, Vec, length, map, true}
use Rattle.std.specs.Str.{chars}
use Rattle.std.specs.declared.alloc.Global.{Global}
use Rattle.ob0_scan.specs.LexemeClasses.{IsIdentifier}
use Rattle.ob0_scan.specs.TextWithTokens.{IsScan, TextWithTokens, max_text_length}
use Rattle.ob0_text.specs.Patches.{patched_text}
use Rattle.ob0_text.specs.Units.{width_of}
use Rattle.ob0_text.specs.declared.edits.Edit.{Edit}
use Rattle.ob0_text.specs.declared.refusals.EditRefusal.{EditRefusal}
use Rattle.ob0_text.specs.declared.refusals.EditRefusal.TheVariants as refusal
use Rattle.ob0_tree.specs.Module.{IsModuleWithTree}
use Rattle.ob0_tree.specs.Tree.{Tree, module_text}
use Rattle.ob0_language_names.specs.Names.{Name}
use Rattle.ob0_language_names.specs.Occurrences.{IsFreeName, at_declaration, at_occurrence, first_name_conflict}
use Rattle.ob0_language_names.specs.Scopes.{renamed}
use Rattle.ob0_language_types.specs.WellTyped.{WellTyped}
use Rattle.ob0_language_runs.specs.EditLaws.{HaveSameRuns}
use Rattle.ob0_edits_tokens.specs.Replacements.{replacement_at_token, range_and_text}
use Rattle.ob0_language_fields.specs.SingleFieldRenaming.{IsFreeFieldName, module_with_renamed_field, is_duplicate_field_name}
use Rattle.ob0_rename.specs.Renaming.{TargetsDeclaration, TargetsField, Renaming, field_tokens_to_rename, declaration_has_name, renaming_target, module_of_renaming, nothing, occurrence_range, conflicting_field_range, conflicting_declaration_range, predeclared, text_after_renaming, tokens_to_rename, named_tree_of_renaming}

-- States that the edits write the new name at the tokens with the indexes `tokens` and change
-- nothing else. Applied together, the edits give a text with the tree `tree` and with at most
-- `max_text_length` bytes. The tree is well-typed and has the same runs as the module before the
-- edits.
pub record WritesNewName (r : Renaming) (tokens : List ℕ) (tree : Tree Name module_text)
    (edits : List Edit) : Type 0 where
  pub short : length (text_after_renaming r tokens) ≤ max_text_length
  pub changes : map range_and_text edits
      ≡ map (replacement_at_token r.unit r.text (module_of_renaming r).source.tokens r.new) tokens
  pub after : TextWithTokens
  pub scan : IsScan after
  pub made : patched_text (width_of r.unit) r.text edits ≡ Some (chars after.text)
  pub of_module : IsModuleWithTree after tree
  pub well_typed : WellTyped tree
  pub same_runs : HaveSameRuns tree (named_tree_of_renaming r)

-- ---- answers to the renaming of a declaration

-- States that the edits rename the declaration with the ordinal `d`. The new name is an identifier
-- and is free for `d`: it causes no name conflict. The edits write the new name at every token that
-- declares `d`, refers to `d` or repeats its name after END. If `d` already has the new name, there
-- are no edits. The edited text is the renamed module.
pub record RenamesDeclaration (r : Renaming) (d : ℕ) (edits : List Edit) : Type 0 where
  pub identifier : IsIdentifier r.new
  pub free : IsFreeName (named_tree_of_renaming r) d r.new
  pub writes : WritesNewName r (tokens_to_rename (module_of_renaming r) d r.new)
      (renamed (named_tree_of_renaming r) d r.new) edits

-- States that this is the first refusal that applies to renaming the declaration with the ordinal
-- `d`. The refusals apply in the order of the cases below.
abbrev pub IsFirstRefusalForDeclaration : Renaming → ℕ → EditRefusal → Type 0
IsFirstRefusalForDeclaration r d refusal.NoName = ⊥
IsFirstRefusalForDeclaration r d refusal.Predeclared = ⊥
IsFirstRefusalForDeclaration r d refusal.BadName = ¬ IsIdentifier r.new
IsFirstRefusalForDeclaration r d (refusal.Duplicate range) =
    IsIdentifier r.new
    × (first_name_conflict (named_tree_of_renaming r) d r.new ≡ Some at_declaration)
    × (conflicting_declaration_range r d ≡ Some range)
IsFirstRefusalForDeclaration r d (refusal.Captures range) =
    IsIdentifier r.new
    × ((k : ℕ)
    × (first_name_conflict (named_tree_of_renaming r) d r.new ≡ Some (at_occurrence k))
    × (occurrence_range r k ≡ Some range))
IsFirstRefusalForDeclaration r d refusal.TooLong =
    IsIdentifier r.new
    × IsFreeName (named_tree_of_renaming r) d r.new
    × (max_text_length < length (text_after_renaming r (tokens_to_rename (module_of_renaming r) d r.new)))
IsFirstRefusalForDeclaration r d refusal.TooDeep = ⊥
IsFirstRefusalForDeclaration r d refusal.Shadowed = ⊥
IsFirstRefusalForDeclaration r d refusal.CommentInside = ⊥
IsFirstRefusalForDeclaration r d refusal.Memory = ⊥

-- States that the answer is edits that rename the declaration with the ordinal `d`, or the first
-- refusal that applies. The answer can also be `Memory` (a failed allocation).
abbrev pub AnswersRenamingOfDeclaration : Renaming → ℕ → Result (Vec Edit Global) EditRefusal → Type 0
AnswersRenamingOfDeclaration r d (Ok edits) = RenamesDeclaration r d edits.items
AnswersRenamingOfDeclaration r d (Err why) = (why ≡ refusal.Memory) ⊎ IsFirstRefusalForDeclaration r d why

-- ---- answers to the renaming of a field

-- States that the edits rename the field `f` of the record with the ordinal `k`. The new name is an
-- identifier and is free for that field: no other field of the record has it. The edits write the
-- new name at the field's declaration and at all its selections. If the new name is `f`, there are
-- no edits. The edited text is the module with that field renamed.
pub record RenamesField (r : Renaming) (k : ℕ) (f : Name) (edits : List Edit) : Type 0 where
  pub identifier : IsIdentifier r.new
  pub free : IsFreeFieldName (named_tree_of_renaming r) k f r.new
  pub writes : WritesNewName r (field_tokens_to_rename r.names k f r.new)
      (module_with_renamed_field (named_tree_of_renaming r) k f r.new) edits

-- States that this is the first refusal that applies to renaming the field `f` of the record with
-- the ordinal `k`. The refusals apply in the order of the cases below. Only another field of that
-- record can conflict with the new name, so `Captures` never applies.
abbrev pub IsFirstRefusalForField : Renaming → ℕ → Name → EditRefusal → Type 0
IsFirstRefusalForField r k f refusal.NoName = ⊥
IsFirstRefusalForField r k f refusal.Predeclared = ⊥
IsFirstRefusalForField r k f refusal.BadName = ¬ IsIdentifier r.new
IsFirstRefusalForField r k f (refusal.Duplicate range) =
    IsIdentifier r.new
    × (is_duplicate_field_name (named_tree_of_renaming r) k f r.new ≡ true)
    × (conflicting_field_range r k ≡ Some range)
IsFirstRefusalForField r k f (refusal.Captures range) = ⊥
IsFirstRefusalForField r k f refusal.TooLong =
    IsIdentifier r.new
    × IsFreeFieldName (named_tree_of_renaming r) k f r.new
    × (max_text_length < length (text_after_renaming r (field_tokens_to_rename r.names k f r.new)))
IsFirstRefusalForField r k f refusal.TooDeep = ⊥
IsFirstRefusalForField r k f refusal.Shadowed = ⊥
IsFirstRefusalForField r k f refusal.CommentInside = ⊥
IsFirstRefusalForField r k f refusal.Memory = ⊥

-- States that the answer is edits that rename the field `f` of the record with the ordinal `k`, or
-- the first refusal that applies. The answer can also be `Memory` (a failed allocation).
abbrev pub AnswersRenamingOfField : Renaming → ℕ → Name → Result (Vec Edit Global) EditRefusal → Type 0
AnswersRenamingOfField r k f (Ok edits) = RenamesField r k f edits.items
AnswersRenamingOfField r k f (Err why) = (why ≡ refusal.Memory) ⊎ IsFirstRefusalForField r k f why

-- ---- answers to the renaming of the declaration or field at the place

-- States that this is the first refusal that applies to the new name, for the declaration or field
-- at the renaming's place.
abbrev pub IsFirstRefusalForTarget : Renaming → EditRefusal → Type 0
IsFirstRefusalForTarget r why =
    ((d : ℕ) × TargetsDeclaration r d × IsFirstRefusalForDeclaration r d why)
    ⊎ ((k : ℕ) × ((f : Name) × TargetsField r k f × IsFirstRefusalForField r k f why))

-- States that this refusal applies to the renaming. Either no name and no field is at the place
-- (`NoName`), or the name at the place is predeclared (`Predeclared`), or the new name is refused.
abbrev pub IsRenameRefusal : Renaming → EditRefusal → Type 0
IsRenameRefusal r refusal.NoName = renaming_target r ≡ nothing
IsRenameRefusal r refusal.Predeclared = renaming_target r ≡ predeclared
IsRenameRefusal r refusal.BadName = IsFirstRefusalForTarget r refusal.BadName
IsRenameRefusal r (refusal.Duplicate range) = IsFirstRefusalForTarget r (refusal.Duplicate range)
IsRenameRefusal r (refusal.Captures range) = IsFirstRefusalForTarget r (refusal.Captures range)
IsRenameRefusal r refusal.TooLong = IsFirstRefusalForTarget r refusal.TooLong
IsRenameRefusal r refusal.TooDeep = ⊥
IsRenameRefusal r refusal.Shadowed = ⊥
IsRenameRefusal r refusal.CommentInside = ⊥
IsRenameRefusal r refusal.Memory = ⊥

-- States that the edits rename the declaration or field at the renaming's place.
abbrev pub AreRenameEdits : Renaming → List Edit → Type 0
AreRenameEdits r edits =
    ((d : ℕ) × TargetsDeclaration r d × RenamesDeclaration r d edits)
    ⊎ ((k : ℕ) × ((f : Name) × TargetsField r k f × RenamesField r k f edits))

-- States that the answer is edits that rename the declaration or field at the renaming's place, or
-- the refusal that applies. The answer can also be `Memory` (a failed allocation).
abbrev pub RenameAnswers : Renaming → Result (Vec Edit Global) EditRefusal → Type 0
RenameAnswers r (Ok edits) = AreRenameEdits r edits.items
RenameAnswers r (Err why) = (why ≡ refusal.Memory) ⊎ IsRenameRefusal r why

-- States that the renaming's place is on a field or on a declared name that isn't predeclared, and
-- that the new name is an identifier. The contract of `rename` allows `Memory` only in
-- this case.
pub record RenamingCanFailForMemory (r : Renaming) : Type 0 where
  pub identifier : IsIdentifier r.new
  pub some : ¬ (renaming_target r ≡ nothing)
  pub declared : ¬ (renaming_target r ≡ predeclared)

-- ---- renaming to the present name

-- States that the result is edits, or the refusal `Memory` because an allocation failed.
abbrev pub FailsOnlyForMemory : Result (Vec Edit Global) EditRefusal → Type 0
FailsOnlyForMemory result = IfErr result (λ why. why ≡ refusal.Memory)

-- States that a renaming to the present name isn't refused: its result is edits, or the refusal
-- `Memory` because an allocation failed.
abbrev pub AcceptsPresentName : Renaming → Result (Vec Edit Global) EditRefusal → Type 0
AcceptsPresentName r result =
    ((d : ℕ)
    → TargetsDeclaration r d
    → declaration_has_name (module_of_renaming r) d r.new ≡ true
    → FailsOnlyForMemory result)
    × ((k : ℕ) (f : Name) → TargetsField r k f → r.new ≡ f → FailsOnlyForMemory result)
