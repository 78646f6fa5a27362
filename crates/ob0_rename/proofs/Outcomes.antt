-- Proves that the answer to the renaming of a declaration is right: a refusal because of a
-- conflict, or the edits.
use Rattle.std.proofs.Common.{◌≡◌, ◌⊎◌, ℕ, ◌≤◌, ◌<◌, Bool, true, false, if◌then◌else◌, Option, Some, None, Result, Ok, Err, Vec, List, [], ◌∷◌, length, map, slice_get, option_map, option_and_then, inl, inr, refl, sym, ap, ◌∙◌, subst, arith}
use Rattle.std.proofs.lemmas.Bool.{ltb-false, ltb-true}
use Rattle.std.specs.Prelude.{IfErr, IfOk, IsErrOf, nat_lt}
use Rattle.std.specs.declared.alloc.Global.{Global}
use Rattle.ob0_scan.specs.LexemeClasses.{IsIdentifier}
use Rattle.ob0_scan.specs.TextWithTokens.{IsScan, TextWithTokens, Word, max_text_length}
use Rattle.ob0_text.specs.Patches.{text_after_cuts_from_offset}
use Rattle.ob0_text.specs.declared.edits.Edit.{Edit}
use Rattle.ob0_text.specs.declared.position_types.Position.{Position}
use Rattle.ob0_text.specs.declared.position_types.Unit as counting
use Rattle.ob0_text.specs.declared.refusals.EditRefusal.{EditRefusal}
use Rattle.ob0_text.specs.declared.refusals.EditRefusal.TheVariants as refusal
use Rattle.ob0_tree.specs.ParsedModule.{ParsedModule, named_tree_of, tree_of}
use Rattle.ob0_tree.specs.Tree.{Tree, module_text, occurrences}
use Rattle.ob0_language_names.specs.ConsistentNames.{has_consistent_names}
use Rattle.ob0_language_names.specs.Names.{Name}
use Rattle.ob0_language_names.specs.Occurrences.{IsFreeName, at_declaration, at_occurrence, labels_of_occurrences, first_name_conflict, first_binding_difference, is_duplicate_name}
use Rattle.ob0_scope.specs.Renames.{namesake_ordinal, other_declaration_in_conflict, conflict_of}
use Rattle.ob0_scope_table.specs.Resolution.{IsResolution, Resolution}
use Rattle.ob0_language_names.specs.Scopes.{renamed}
use Rattle.ob0_scope.specs.declared.name_conflicts.FirstConflict as reported
use Rattle.ob0_scope.specs.declared.name_conflicts.FirstConflict.TheVariants as reports
use Rattle.ob0_tree.specs.TokenIndexLeaves.{token_text_at}
use Rattle.ob0_types.specs.CheckedModules.{IsWellTyped}
use Rattle.ob0_types.specs.IdentifierMeanings as resolved_identifier_at
use Rattle.ob0_types.specs.declared.identifier_meanings.IdentifierWithMeaning.{IdentifierWithMeaning}
use Rattle.ob0_types.specs.declared.identifier_meanings.IdentifierMeaning.{IdentifierMeaning}
use Rattle.ob0_types.specs.declared.identifier_meanings.IdentifierMeaning.TheVariants.{Name as name_of, Field}
use Rattle.ob0_language_types.specs.WellTyped.{WellTyped}
use Rattle.ob0_language_runs.specs.EditLaws.{RenamingToFreeNameKeepsTypingAndRuns, HaveSameRuns}
use Rattle.ob0_edits_tokens.specs.WordReplacements.{changes_at_indexes, changed_words, words_of_text}
use Rattle.ob0_edits_tokens.specs.WordsOfTrees.{RenamedTreeSpellsRenamedWords}
use Rattle.ob0_edits_tokens.specs.Replacements.{AreIdentifierIndexes, EditedTextHasWords, MayReplaceIdentifier, replacement_at_token, range_and_text, text_after_replacement}
use Rattle.ob0_edits_tokens.specs.Written.{name_word}
use Rattle.ob0_scope.specs.NamesAtPlaces.{name_at_offset, tokens_bound_to_declaration}
use Rattle.ob0_scope.specs.declared.bound_names.BoundName as named
use Rattle.ob0_types_fields.specs.declared.field_identifier.FieldIdentifier.{FieldIdentifier}
use Rattle.ob0_types_fields.specs.FieldIdentifiers.{module_field_at_offset}
use Rattle.ob0_scope.proofs.Written.{renamed_there}
use Rattle.ob0_tree.specs.Module.{IsModuleWithTree}
use Rattle.ob0_rename.specs.Answers.{RenameAnswers, AnswersRenamingOfDeclaration, IsRenameRefusal, IsFirstRefusalForDeclaration, FailsOnlyForMemory, AcceptsPresentName, WritesNewName}
use Rattle.ob0_rename.specs.Renaming.{TargetsField, TargetsDeclaration, Renaming, RenameTarget, target_of_ordinal, declaration, record_field, renaming_target, rename_target_at, target_of_name_or_field, module_of_renaming, nothing, declaring_token, declaration_has_name, predeclared, token_range, tokens_to_rename}
use Rattle.ob0_rename.proofs.Owned.{other_is_declared}
use Rattle.ob0_rename.proofs.Rewritten.{of_renamed}
use Rattle.ob0_rename.proofs.Occurring.{occurrence_is_there}

-- states the facts about edits that write a new name at places of a scanned text
pub record Edited (unit : counting.Unit) (text : List ℕ) (new : Name) (s : TextWithTokens) (places : List ℕ) (result : Result (Vec Edit Global) EditRefusal) : Type 0 where
  pub edits : IfOk result (λ edits. map range_and_text edits.items ≡ map (replacement_at_token unit text s.tokens new) places)
  pub short : IfOk result (λ edits. length (text_after_replacement s places new) ≤ max_text_length)
  pub leaves : (ws : List Word) → MayReplaceIdentifier new ws → IfOk result (λ edits. EditedTextHasWords unit text edits.items (changed_words (changes_at_indexes places ws) 0 (words_of_text s)))
  pub too_long : IsErrOf result refusal.TooLong → max_text_length < length (text_after_replacement s places new)
  pub refusals : IfErr result (λ why. (why ≡ refusal.TooLong) ⊎ (why ≡ refusal.Memory))

pub once_of : (t : Tree Name module_text) → WellTyped t → has_consistent_names t ≡ true
unfolding WellTyped
once_of t well = well.0

difference_of : (b : Bool) (o : Option ℕ) (k : ℕ) → (if b then Some at_declaration else option_map at_occurrence o) ≡ Some (at_occurrence k) → o ≡ Some k
difference_of false (Some j) k e = let same : j ≡ k = cc in ap Some same
difference_of _ _ k e = absurd (cc)

module _ (unit : counting.Unit) (text : List ℕ) (place : Position) (new : Name) (d : ℕ) where
  abbrev pub requested : Resolution → Renaming
  requested r = record { unit = unit; text = text; names = r; place = place; new = new }

  pub captured : (r : Resolution) → IsResolution r → IsIdentifier new → (capture : reported.FirstConflict) (why : EditRefusal)
      → Some (conflict_of capture) ≡ first_name_conflict (named_tree_of r.module_read) d new → other_declaration_in_conflict (Some capture) ≡ namesake_ordinal (named_tree_of r.module_read) d new
      → ((other token : ℕ) → capture ≡ reports.Duplicate other → declaring_token r.module_read other ≡ Some token → why ≡ refusal.Duplicate (token_range (requested r) token))
      → ((k token : ℕ) → capture ≡ reports.Occurrence k → slice_get (occurrences (tree_of r.module_read)) k ≡ Some token → why ≡ refusal.Captures (token_range (requested r) token))
      → IsFirstRefusalForDeclaration (requested r) d why
  captured r is id (reports.Duplicate other) why first named duplicate occurrence =
      let m = r.module_read in
      let is_there = other_is_declared m d new other (sym named) in
      let range = ap (λ o. option_map (token_range (requested r)) (option_and_then (declaring_token m) o)) (sym named) ∙ ap (option_map (token_range (requested r))) is_there.1 in
      subst (IsFirstRefusalForDeclaration (requested r) d) (sym (duplicate other is_there.0 refl is_there.1)) (id, sym first, range)
  captured r is id (reports.Occurrence k) why first named duplicate occurrence =
      let m = r.module_read in
      let bound = labels_of_occurrences (renamed (named_tree_of m) d new) in
      let found = difference_of (is_duplicate_name (named_tree_of m) d new) (first_binding_difference bound (labels_of_occurrences (named_tree_of m))) k (sym first) in
      let is_there = occurrence_is_there r bound k is found in
      subst (IsFirstRefusalForDeclaration (requested r) d) (sym (occurrence k is_there.0 refl is_there.1)) (id, (k, sym first, ap (option_map (token_range (requested r))) is_there.1))

  -- Edits at some places leave a text of a tree that has the new name there. The tree must be
  -- well-typed and run like the module.
  pub written : (r : Resolution) (tree : Tree Name module_text) (places : List ℕ) → IsIdentifier new → ((name : List ℕ) → IsIdentifier name → MayReplaceIdentifier name (name_word name ∷ []))
      → ((after : TextWithTokens) → IsScan after → words_of_text after ≡ changed_words (changes_at_indexes places (name_word new ∷ [])) 0 (words_of_text r.module_read.source) → IsModuleWithTree after tree)
      → WellTyped tree × HaveSameRuns tree (named_tree_of r.module_read)
      → (edits : Vec Edit Global) → Edited unit text new r.module_read.source places (Ok edits) → WritesNewName (requested r) places tree edits.items
  written r tree places id resolved_identifier_at leaves kept edits made =
      let words = made.leaves (name_word new ∷ []) (resolved_identifier_at new id) in
      record {
        short = made.short;
        changes = made.edits;
        after = words.after;
        scan = words.scan;
        made = words.made;
        of_module = leaves words.after words.scan words.words_are;
        well_typed = kept.0;
        same_runs = kept.1;
      }

  pub answered : (r : Resolution) → IsWellTyped r → IsIdentifier new → IsFreeName (named_tree_of r.module_read) d new → RenamingToFreeNameKeepsTypingAndRuns → RenamedTreeSpellsRenamedWords
      → ((name : List ℕ) → IsIdentifier name → MayReplaceIdentifier name (name_word name ∷ [])) → AreIdentifierIndexes r.module_read.source.tokens 0 (tokens_to_rename r.module_read d new)
      → (result : Result (Vec Edit Global) EditRefusal) → Edited unit text new r.module_read.source (tokens_to_rename r.module_read d new) result → AnswersRenamingOfDeclaration (requested r) d result
  answered r well id free keeps spells resolved_identifier_at names (Ok edits) made =
      let m = r.module_read in
      record {
        identifier = id;
        free = free;
        writes =
            written r (renamed (named_tree_of m) d new) (tokens_to_rename m d new) id resolved_identifier_at
            (of_renamed m d new well.resolved.parsed (once_of (named_tree_of m) well.well_typed) spells (renamed_there r d well.resolved) names)
            (keeps (named_tree_of m) d new free well.well_typed) edits made;
      }
  answered r well id free keeps spells resolved_identifier_at names (Err why) made =
      elim made.refusals [
        | inl e ↦ inr (subst (IsFirstRefusalForDeclaration (requested r) d) (sym e) (id, free, made.too_long (ap Err e)))
        | inr e ↦ inl e
      ]

pub whole : (text : List ℕ) → length (text_after_cuts_from_offset text 0 []) ≡ length text
unfolding text_after_cuts_from_offset
whole text = refl

-- Renaming a declaration to its present name doesn't make the text too long.
pub own_answered : (unit : counting.Unit) (text : List ℕ) (new : Name) (d : ℕ) (m : ParsedModule) → IsScan m.source → declaration_has_name m d new ≡ true
    → (result : Result (Vec Edit Global) EditRefusal) → Edited unit text new m.source (tokens_to_rename m d new) result → IfErr result (λ why. why ≡ refusal.Memory)
own_answered unit text new d m scan own (Ok edits) made = tt
own_answered unit text new d m scan own (Err why) made =
    elim made.refusals [
      | inl e ↦
          let none : tokens_to_rename m d new ≡ [] = own_places (tokens_bound_to_declaration m d true) (declaration_has_name m d new) own in
          let long = subst (λ places. max_text_length < length (text_after_replacement m.source places new)) none (made.too_long (ap Err e)) in
          absurd (omega (arith, long, whole m.source.text, scan.short))
      | inr e ↦ e
    ]
  where
    own_places : (places : List ℕ) (b : Bool) → b ≡ true → (if b then [] else places) ≡ []
    own_places places true e = refl
    own_places places false e = absurd (cc)

-- ---- an answer for the declaration or field at the place is the answer

refused_there : (a : Renaming) (d : ℕ) → TargetsDeclaration a d → (why : EditRefusal) → IsFirstRefusalForDeclaration a d why → IsRenameRefusal a why
refused_there a d means refusal.BadName h = inl (d, means, h)
refused_there a d means (refusal.Duplicate range) h = inl (d, means, h)
refused_there a d means (refusal.Captures range) h = inl (d, means, h)
refused_there a d means refusal.TooLong h = inl (d, means, h)
refused_there a d means _ h = absurd h

pub answered_there : (a : Renaming) (d : ℕ) → TargetsDeclaration a d → (result : Result (Vec Edit Global) EditRefusal) → AnswersRenamingOfDeclaration a d result → RenameAnswers a result
answered_there a d means (Ok edits) h = inl (d, means, h)
answered_there a d means (Err why) h = elim h [ inl e ↦ inl e | inr e ↦ inr (refused_there a d means why e) ]

-- the target at the place is unique

-- ---- the target at the place

-- returns the target that the meaning of an identifier gives
abbrev pub target_of : TextWithTokens → ℕ → IdentifierMeaning → RenameTarget
target_of source token (name_of ordinal) = target_of_ordinal ordinal
target_of source token (Field k) = record_field k (token_text_at source token)

abbrev pub target_in : TextWithTokens → Option IdentifierWithMeaning → RenameTarget
target_in source None = nothing
target_in source (Some x) = target_of source x.token x.means

pub target_there : (r : Resolution) (offset : ℕ) (found : Option IdentifierWithMeaning) → found ≡ resolved_identifier_at.identifier_meaning_at_offset r offset → rename_target_at r offset ≡ target_in r.module_read.source found
target_there r offset found is = one (name_at_offset r.module_read offset) (module_field_at_offset r offset) ∙ ap (target_in r.module_read.source) (sym is)
  where
    one : (n : Option named.BoundName) (f : Option FieldIdentifier) → target_of_name_or_field r.module_read.source n f ≡ target_in r.module_read.source (resolved_identifier_at.meaning_of_name_or_field n f)
    one (Some n) f = refl
    one None None = refl
    one None (Some x) = refl

pub is_declaration : (ordinal : ℕ) → 7 ≤ ordinal → target_of_ordinal ordinal ≡ declaration ordinal
is_declaration ordinal high = one (nat_lt ordinal 7) refl
  where
    one : (b : Bool) → nat_lt ordinal 7 ≡ b → (if b then predeclared else declaration ordinal) ≡ declaration ordinal
    one true e = absurd (omega (arith, high, ltb-true ordinal 7 e))
    one false e = refl

pub is_predeclared : (ordinal : ℕ) → ordinal < 7 → target_of_ordinal ordinal ≡ predeclared
is_predeclared ordinal low = one (nat_lt ordinal 7) refl
  where
    one : (b : Bool) → nat_lt ordinal 7 ≡ b → (if b then predeclared else declaration ordinal) ≡ predeclared
    one true e = refl
    one false e = absurd (omega (arith, low, ltb-false ordinal 7 e))

-- ---- renaming to the present name

pub takes_declaration : (a : Renaming) (d : ℕ) (result : Result (Vec Edit Global) EditRefusal) → TargetsDeclaration a d → (declaration_has_name (module_of_renaming a) d a.new ≡ true → FailsOnlyForMemory result) → AcceptsPresentName a result
takes_declaration a d result means own = (
  (λ e other is. let both : declaration d ≡ declaration e = sym means ∙ other in let same : d ≡ e = cc in own (subst (λ (x : ℕ). declaration_has_name (module_of_renaming a) x a.new ≡ true) (sym same) is)),
  (λ k f other is. let both : declaration d ≡ record_field k f = sym means ∙ other in absurd (cc)),
)

pub takes_field : (a : Renaming) (k : ℕ) (f : Name) (result : Result (Vec Edit Global) EditRefusal) → TargetsField a k f → (a.new ≡ f → FailsOnlyForMemory result) → AcceptsPresentName a result
takes_field a k f result means own = (
  (λ e other is. let both : record_field k f ≡ declaration e = sym means ∙ other in absurd (cc)),
  (λ l g other is. let both : record_field k f ≡ record_field l g = sym means ∙ other in let same : f ≡ g = cc in own (is ∙ sym same)),
)

pub takes_none : (a : Renaming) (result : Result (Vec Edit Global) EditRefusal) → (renaming_target a ≡ nothing) ⊎ (renaming_target a ≡ predeclared) → AcceptsPresentName a result
takes_none a result (inl means) =
    ((λ e other is. let both : nothing ≡ declaration e = sym means ∙ other in absurd (cc)), (λ l g other is. let both : nothing ≡ record_field l g = sym means ∙ other in absurd (cc)))
takes_none a result (inr means) =
    ((λ e other is. let both : predeclared ≡ declaration e = sym means ∙ other in absurd (cc)), (λ l g other is. let both : predeclared ≡ record_field l g = sym means ∙ other in absurd (cc)))
