-- Proves that a request for a rename has an answer for each well-typed module: the edits, or the
-- refusal.
use Rattle.std.proofs.Common.{◌≡◌, ◌∙◌, ℕ, Bool, true, false, if◌then◌else◌, List, [], ◌∷◌, Option, Some, None, Result, Ok, Err, Vec, length, option_and_then, option_map, inl, inr, refl, ap, sym}
use Rattle.std.specs.Str.{chars}
use Rattle.std.specs.declared.alloc.Global.{Global}
use Rattle.std.proofs.lemmas.Str.{chars_from_encodes}
use Rattle.ob0_scan.specs.declared.lexeme.Token.{Token}
use Rattle.ob0_scan.specs.LexemeClasses.{IsIdentifier}
use Rattle.ob0_scan.specs.TextWithTokens.{TextWithTokens}
use Rattle.ob0_text.specs.declared.edits.Edit.{Edit}
use Rattle.ob0_text.specs.declared.position_types.Position.{Position}
use Rattle.ob0_text.specs.declared.position_types.Range.{Range}
use Rattle.ob0_text.specs.declared.position_types.Unit.{Unit}
use Rattle.ob0_text.specs.declared.refusals.EditRefusal.{EditRefusal}
use Rattle.ob0_text.specs.declared.refusals.EditRefusal.TheVariants as refusal
use Rattle.ob0_tree.specs.ParsedModule.{ParsedModule, named_tree_of}
use Rattle.ob0_tree.specs.Tree.{Tree, module_text}
use Rattle.ob0_language_names.specs.Names.{Name, same_name}
use Rattle.ob0_language_names.specs.Occurrences.{IsFreeName, labels_of_occurrences, first_binding_difference}
use Rattle.ob0_language_names.specs.Scopes.{renamed}
use Rattle.ob0_language_fields.specs.SingleFieldRenaming.{IsFreeFieldName}
use Rattle.ob0_language_field_laws.specs.FieldLaws.{RenamingFieldToFreeNameKeepsTypingAndRuns}
use Rattle.ob0_language_runs.specs.EditLaws.{RenamingToFreeNameKeepsTypingAndRuns}
use Rattle.ob0_scope.specs.NamesAtPlaces.{tokens_bound_to_declaration}
use Rattle.ob0_scope.specs.Renames.{namesake_ordinal}
use Rattle.ob0_scope.specs.declared.name_conflicts.FirstConflict.TheVariants as reports
use Rattle.ob0_scope.proofs.Captured.{captured_later, captured_there, free_where_none}
use Rattle.ob0_scope.proofs.Written.{bound_are_identifiers, bound_ascend}
use Rattle.ob0_scope_table.specs.Resolution.{Resolution}
use Rattle.ob0_types_fields.specs.FieldIdentifiers.{DuplicateFieldNameHasDeclaringToken, RenamingChangesFieldTokens, field_declaring_token, field_identifiers, field_tokens_in_module}
use Rattle.ob0_types_fields.proofs.FieldIdentifierList.{fields_are_identifiers, fields_ascend, kept_are_identifiers, kept_ascend}
use Rattle.ob0_edits_tokens.specs.WordsOfTrees.{RenamedTreeSpellsRenamedWords}
use Rattle.ob0_edits_tokens.specs.Replacements.{AreIdentifierIndexes, MayReplaceIdentifier}
use Rattle.ob0_edits_tokens.specs.Written.{name_word}
use Rattle.ob0_rename.specs.Answers.{RenameAnswers}
use Rattle.ob0_rename.specs.Renaming.{TargetsField, TargetsDeclaration, Renaming, RenameTarget, declaration, declaring_token, record_field, field_tokens_to_rename, declaration_has_name, renaming_target, nothing, conflicting_declaration_range, predeclared, renaming_at_place, token_range, tokens_to_rename}
use Rattle.ob0_rename.proofs.FieldOutcomes.{duplicated, field_answered, field_answered_there, other_none}
use Rattle.ob0_rename.proofs.Named.{are_names}
use Rattle.ob0_rename.proofs.Occurring.{occurrence_is_there}
use Rattle.ob0_rename.proofs.Outcomes.{answered, answered_there}
use Rattle.ob0_rename.proofs.Owned.{other_is_declared}
use Rattle.ob0_analysis.specs.AnalysisAnswers.{IsResolvedWellTypedModule}
use Rattle.ob0_analysis.specs.TextBytes.{utf8}
use Rattle.ob0_edits.specs.Renamings.{IsOptionalRenameResult}
use Rattle.ob0_edits.proofs.Renamings.{new_name_found, settled}
use Rattle.ob0_world_rules.specs.Asks.{rename}
use Rattle.ob0_world_rules.specs.Answers.{IsAnswerForText}
use Rattle.ob0_world_rules.specs.TextEdits.{Replacement, replacements_of_edits}
use Rattle.ob0_world_rules.specs.WellTypedTexts.{WellTypedText}
use Rattle.ob0_world_rules.specs.Laws.{AlwaysHasAnswer}
use Rattle.ob0_rename_answers.specs.RenameAnswers.{WellTypedTextsCanBeResolved}
use Rattle.ob0_rename_answers.proofs.NewNameEdits.{NoMemory, Outcome, outcome}

abbrev pub NamesReplaceNames : Type 0
NamesReplaceNames = (new : List ℕ) → IsIdentifier new → MayReplaceIdentifier new (name_word new ∷ [])

-- ---- no refusal is a failed allocation

no_name_other : refusal.NoName ≡ refusal.Memory → ⊥
no_name_other e = cc

predeclared_other : refusal.Predeclared ≡ refusal.Memory → ⊥
predeclared_other e = cc

bad_name_other : refusal.BadName ≡ refusal.Memory → ⊥
bad_name_other e = cc

duplicate_other : (range : Range) → refusal.Duplicate range ≡ refusal.Memory → ⊥
duplicate_other range e = cc

captures_other : (range : Range) → refusal.Captures range ≡ refusal.Memory → ⊥
captures_other range e = cc

-- ---- the tokens that get the new name

names_or_none : (tokens : List Token) (places : List ℕ) (own : Bool) → AreIdentifierIndexes tokens 0 places → AreIdentifierIndexes tokens 0 (if own then [] else places)
names_or_none tokens places true h = tt
names_or_none tokens places false h = h

module _ (keeps : RenamingToFreeNameKeepsTypingAndRuns) (field_keeps : RenamingFieldToFreeNameKeepsTypingAndRuns) (by_tokens : RenamingChangesFieldTokens) (by_token : DuplicateFieldNameHasDeclaringToken) (spells : RenamedTreeSpellsRenamedWords) (identified : NamesReplaceNames) where
  module _ (unit : Unit) (text : List ℕ) (place : Position) (new : List ℕ) (names : Resolution) (read : IsResolvedWellTypedModule (utf8 text) names) (none : (given : List Replacement) → IsAnswerForText unit text (rename place new) given → ⊥) where
    abbrev asked : Renaming
    asked = renaming_at_place unit text names place new

    abbrev m : ParsedModule
    m = names.module_read

    abbrev source : TextWithTokens
    source = names.module_read.source

    abbrev tree : Tree Name module_text
    tree = named_tree_of names.module_read

    held : text ≡ chars source.text
    held = chars_from_encodes text source.text read.scan.scan.utf8 (sym read.scan.of)

    found : (result : Result (Vec Edit Global) EditRefusal) → NoMemory result → RenameAnswers asked result → IsOptionalRenameResult unit text place new (Some result)
    found result other h =
        new_name_found unit source.text text place new (Some result) read.scan.scan.utf8 (sym held)
        (names, record { scan = record { of = refl; scan = read.scan.scan }; well_typed = read.well_typed }, settled asked result result h refl other)

    finish : (result : Result (Vec Edit Global) EditRefusal) → NoMemory result → RenameAnswers asked result → ⊥
    finish (Ok edits) other h = none (replacements_of_edits edits.items) (inl (edits.items, found (Ok edits) other h, refl))
    finish (Err why) other h = none [] (inr (inl (why, found (Err why) other h), refl))

    -- ---- a declaration

    module _ (d : ℕ) (means : TargetsDeclaration asked d) where
      declaration_names : AreIdentifierIndexes source.tokens 0 (tokens_to_rename m d new)
      declaration_names =
          names_or_none source.tokens (tokens_bound_to_declaration m d true) (declaration_has_name m d new)
          (are_names source.tokens 0 (tokens_bound_to_declaration m d true) (length source.tokens) (bound_ascend names d true read.well_typed.resolved) (bound_are_identifiers names d true read.well_typed.resolved))

      free : IsIdentifier new → IsFreeName tree d new → ⊥
      free id is_free =
          let made : Outcome unit text new source (tokens_to_rename m d new) =
          outcome unit text new source read.scan.scan held id (identified new id) (tokens_to_rename m d new) declaration_names in
          finish made.result made.settles (answered_there asked d means made.result (answered unit text place new d names read.well_typed id is_free keeps spells identified declaration_names made.result made.edited))

      duplicate : IsIdentifier new → (other : ℕ) → namesake_ordinal tree d new ≡ Some other → ⊥
      duplicate id other e =
          let is_there = other_is_declared m d new other e in
          let range : conflicting_declaration_range asked d ≡ Some (token_range asked is_there.0) =
          ap (λ o. option_map (token_range asked) (option_and_then (declaring_token m) o)) e ∙ ap (option_map (token_range asked)) is_there.1 in
          finish (Err (refusal.Duplicate (token_range asked is_there.0))) (duplicate_other (token_range asked is_there.0))
          (answered_there asked d means (Err (refusal.Duplicate (token_range asked is_there.0))) (inr (id, sym (captured_there tree d new other (sym e)), range)))

      captured_or_free : IsIdentifier new → None ≡ namesake_ordinal tree d new → (o : Option ℕ) → first_binding_difference (labels_of_occurrences (renamed tree d new)) (labels_of_occurrences tree) ≡ o → ⊥
      captured_or_free id e None f =
          free id ((free_where_none tree d new None (captured_later tree d new None e (sym (ap (option_map reports.Occurrence) f)))).0 refl)
      captured_or_free id e (Some k) f =
          let first = captured_later tree d new (Some (reports.Occurrence k)) e (sym (ap (option_map reports.Occurrence) f)) in
          let is_there = occurrence_is_there names (labels_of_occurrences (renamed tree d new)) k read.well_typed.resolved f in
          finish (Err (refusal.Captures (token_range asked is_there.0))) (captures_other (token_range asked is_there.0))
          (answered_there asked d means (Err (refusal.Captures (token_range asked is_there.0))) (inr (id, (k, sym first, ap (option_map (token_range asked)) is_there.1))))

      by_namesake : IsIdentifier new → (o : Option ℕ) → namesake_ordinal tree d new ≡ o → ⊥
      by_namesake id None e = captured_or_free id (sym e) (first_binding_difference (labels_of_occurrences (renamed tree d new)) (labels_of_occurrences tree)) refl
      by_namesake id (Some other) e = duplicate id other e

      declared : ⊥
      declared = finish (Err refusal.BadName) bad_name_other (answered_there asked d means (Err refusal.BadName) (inr (λ id. by_namesake id (namesake_ordinal tree d new) refl)))

    -- ---- a field

    module _ (k : ℕ) (f : Name) (means : TargetsField asked k f) where
      field_names : AreIdentifierIndexes source.tokens 0 (field_tokens_to_rename names k f new)
      field_names =
          names_or_none source.tokens (field_tokens_in_module names k f) (same_name new f)
          (are_names source.tokens 0 (field_tokens_in_module names k f) (length source.tokens) (kept_ascend source k f (field_identifiers names) 0 (length source.tokens) (fields_ascend names read.well_typed.resolved.parsed))
          (kept_are_identifiers source k f source.tokens (field_identifiers names) (fields_are_identifiers names read.well_typed.resolved.parsed)))

      field_free : IsIdentifier new → IsFreeFieldName tree k f new → ⊥
      field_free id is_free =
          let made : Outcome unit text new source (field_tokens_to_rename names k f new) =
          outcome unit text new source read.scan.scan held id (identified new id) (field_tokens_to_rename names k f new) field_names in
          finish made.result made.settles
          (field_answered_there asked k f means made.result (field_answered unit text place new k f names read.well_typed id is_free field_keeps by_tokens spells identified field_names made.result made.edited))

      by_other : IsIdentifier new → (o : Option ℕ) → (if same_name new f then None else field_declaring_token m k new) ≡ o → ⊥
      by_other id None e = field_free id (by_token m k f new ∙ other_none (same_name new f) (field_declaring_token m k new) e)
      by_other id (Some token) e =
          finish (Err (refusal.Duplicate (token_range asked token))) (duplicate_other (token_range asked token))
          (field_answered_there asked k f means (Err (refusal.Duplicate (token_range asked token)))
          (inr (duplicated unit text place new k f names id by_token token (refusal.Duplicate (token_range asked token)) e refl)))

      named_field : ⊥
      named_field =
          finish (Err refusal.BadName) bad_name_other
          (field_answered_there asked k f means (Err refusal.BadName) (inr (λ id. by_other id (if same_name new f then None else field_declaring_token m k new) refl)))

    -- ---- the target at the place

    pub by_target : (target : RenameTarget) → renaming_target asked ≡ target → ⊥
    by_target nothing e = finish (Err refusal.NoName) no_name_other (inr e)
    by_target predeclared e = finish (Err refusal.Predeclared) predeclared_other (inr e)
    by_target (declaration d) e = declared d e
    by_target (record_field k f) e = named_field k f e

pub renaming_always_has_answer : RenamingToFreeNameKeepsTypingAndRuns → RenamingFieldToFreeNameKeepsTypingAndRuns → RenamingChangesFieldTokens → DuplicateFieldNameHasDeclaringToken → RenamedTreeSpellsRenamedWords → NamesReplaceNames → WellTypedTextsCanBeResolved → (position : Position) (name : List ℕ) → AlwaysHasAnswer (rename position name)
renaming_always_has_answer keeps field_keeps by_tokens by_token spells identified each position name unit text none = none [] (inr (inr unfit, refl))
  where
    unfit : WellTypedText text → ⊥
    unfit h =
        let names : Resolution = (each text h).0 in
        by_target keeps field_keeps by_tokens by_token spells identified unit text position name names (each text h).1 none (renaming_target (renaming_at_place unit text names position name)) refl
