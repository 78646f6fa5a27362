-- Proves that the answer to the renaming of a field is right: a refusal because of another field of
-- its record, or the edits. By `field_there`, the tree with the new name at the tokens of a field
-- is the module with the field renamed. If the new name is the old name, each of these tokens
-- already has it (`written-so`).
use Rattle.std.proofs.Common.{◌≡◌, ℕ, ◌<◌, Bool, true, false, not, is_some, ◌&&◌, ◌||◌, ◌==◌, if◌then◌else◌, Option, Some, None, Result, Ok, Err, Vec, List, [], ◌∷◌, length, option_map, inl, inr, refl, sym, ap, ◌∙◌, subst, arith, eqb-true}
use Rattle.std.specs.List.{list_any}
use Rattle.std.specs.declared.alloc.Global.{Global}
use Rattle.std.proofs.lemmas.Slice.Eq.{bytes_eq-Decides}
use Rattle.ob0_scan.specs.LexemeClasses.{IsIdentifier}
use Rattle.ob0_scan.specs.TextWithTokens.{IsScan, TextWithTokens, max_text_length}
use Rattle.ob0_text.specs.declared.edits.Edit.{Edit}
use Rattle.ob0_text.specs.declared.position_types.Position.{Position}
use Rattle.ob0_text.specs.declared.position_types.Unit as counting
use Rattle.ob0_text.specs.declared.refusals.EditRefusal.{EditRefusal}
use Rattle.ob0_text.specs.declared.refusals.EditRefusal.TheVariants as refusal
use Rattle.ob0_tree.specs.ParsedModule.{named_tree_of, tree_of}
use Rattle.ob0_tree.specs.TokenIndexLeaves as place
use Rattle.ob0_tree.specs.Tree.{mapped_tree}
use Rattle.ob0_language_names.specs.Names.{Name, same_name}
use Rattle.ob0_scope_table.specs.Resolution.{Resolution}
use Rattle.ob0_types.specs.CheckedModules.{IsWellTyped}
use Rattle.ob0_edits_tokens.specs.WordReplacements.{is_in_list, words_of_text}
use Rattle.ob0_edits_tokens.specs.WordsOfTrees.{RenamedTreeSpellsRenamedWords, integer_value_at, renamed_word_text}
use Rattle.ob0_edits_tokens.specs.Replacements.{AreIdentifierIndexes, MayReplaceIdentifier, text_after_replacement}
use Rattle.ob0_edits_tokens.specs.Written.{name_word}
use Rattle.ob0_language_field_laws.specs.FieldLaws.{RenamingFieldToFreeNameKeepsTypingAndRuns}
use Rattle.ob0_types_fields.specs.declared.field_identifier.FieldIdentifier.{FieldIdentifier}
use Rattle.ob0_types_fields.specs.FieldIdentifiers.{DuplicateFieldNameHasDeclaringToken, RenamingChangesFieldTokens, field_declaring_token, field_identifiers, field_tokens_in_module, tokens_of_field}
use Rattle.ob0_language_fields.specs.SingleFieldRenaming.{IsFreeFieldName, module_with_renamed_field}
use Rattle.ob0_rename.specs.Answers.{RenameAnswers, AnswersRenamingOfField, IsRenameRefusal, IsFirstRefusalForField, FailsOnlyForMemory}
use Rattle.ob0_rename.specs.Renaming.{TargetsField, Renaming, field_tokens_to_rename, token_range}
use Rattle.ob0_rename.proofs.Outcomes.{Edited, whole, written}
use Rattle.ob0_rename.proofs.Rewritten.{number_same, of_rewritten, text_same}

-- ---- the tree with the new name at the tokens of a field

among-any : (k : ℕ) (places : List ℕ) → is_in_list k places ≡ list_any (λ token. k == token) places
among-any k [] = refl
among-any k (p ∷ ps) = ap (λ b. (k == p) || b) (among-any k ps)

-- Each token of a field has the field's name.
written-so : (source : TextWithTokens) (k : ℕ) (f : Name) (i : ℕ) (xs : List FieldIdentifier) → list_any (λ token. i == token) (tokens_of_field source k f xs) ≡ true → place.token_text_at source i ≡ f
written-so source k f i [] e = absurd (cc)
written-so source k f i (x ∷ xs) e = one (x.owner == k) (same_name (place.token_text_at source x.token) f) refl (written-so source k f i xs) e
  where
    here : (b : Bool) → (i == x.token) ≡ b → same_name (place.token_text_at source x.token) f ≡ true → (list_any (λ token. i == token) (tokens_of_field source k f xs) ≡ true → place.token_text_at source i ≡ f)
        → (b || list_any (λ token. i == token) (tokens_of_field source k f xs)) ≡ true → place.token_text_at source i ≡ f
    here true at same later e = ap (place.token_text_at source) (eqb-true i x.token at) ∙ (bytes_eq-Decides (place.token_text_at source x.token) f).0 same
    here false at same later e = later e

    one : (b c : Bool) → same_name (place.token_text_at source x.token) f ≡ c → (list_any (λ token. i == token) (tokens_of_field source k f xs) ≡ true → place.token_text_at source i ≡ f)
        → list_any (λ token. i == token) (if b && c then x.token ∷ tokens_of_field source k f xs else tokens_of_field source k f xs) ≡ true → place.token_text_at source i ≡ f
    one true true same later e = here (i == x.token) refl same later e
    one true false same later e = later e
    one false c same later e = later e

pub field_there : (r : Resolution) (k : ℕ) (f new : Name) → IsWellTyped r → RenamingChangesFieldTokens
    → mapped_tree (renamed_word_text (words_of_text r.module_read.source) (field_tokens_to_rename r k f new) new) (integer_value_at (words_of_text r.module_read.source)) (tree_of r.module_read) ≡ module_with_renamed_field (named_tree_of r.module_read) k f new
field_there r k f new well by_tokens = one (same_name new f) refl
  where
    s : TextWithTokens
    s = r.module_read.source

    kept : (i : ℕ) → new ≡ f → (b : Bool) → list_any (λ token. i == token) (field_tokens_in_module r k f) ≡ b → place.token_text_at s i ≡ (if b then new else place.token_text_at s i)
    kept i own true e = written-so s k f i (field_identifiers r) e ∙ sym own
    kept i own false e = refl

    one : (b : Bool) → same_name new f ≡ b
        → mapped_tree (renamed_word_text (words_of_text s) (if b then [] else field_tokens_in_module r k f) new) (integer_value_at (words_of_text s)) (tree_of r.module_read) ≡ module_with_renamed_field (named_tree_of r.module_read) k f new
    one true own =
        (λ j. mapped_tree (λ i. (text_same s i ∙ kept i ((bytes_eq-Decides new f).0 own) (list_any (λ token. i == token) (field_tokens_in_module r k f)) refl) j) (λ i. number_same s i j) (tree_of r.module_read))
        ∙ sym (by_tokens r k f new well.resolved well.well_typed)
    one false other =
        (λ j. mapped_tree (λ i. if among-any i (field_tokens_in_module r k f) j then new else text_same s i j) (λ i. number_same s i j) (tree_of r.module_read))
        ∙ sym (by_tokens r k f new well.resolved well.well_typed)

-- ---- another field with the new name

pub other_some : (b : Bool) (o : Option ℕ) (token : ℕ) → (if b then None else o) ≡ Some token → ((not b && is_some o) ≡ true) × (o ≡ Some token)
other_some false (Some t) token e = (refl, e)
other_some _ _ token e = absurd (cc)

pub other_none : (b : Bool) (o : Option ℕ) → (if b then None else o) ≡ None → (not b && is_some o) ≡ false
other_none false (Some t) e = absurd (cc)
other_none _ _ e = refl

module _ (unit : counting.Unit) (text : List ℕ) (place : Position) (new : Name) (k : ℕ) (f : Name) where
  abbrev pub requested_field : Resolution → Renaming
  requested_field r = record { unit = unit; text = text; names = r; place = place; new = new }

  pub duplicated : (r : Resolution) → IsIdentifier new → DuplicateFieldNameHasDeclaringToken → (token : ℕ) (why : EditRefusal) → (if same_name new f then None else field_declaring_token r.module_read k new) ≡ Some token
      → why ≡ refusal.Duplicate (token_range (requested_field r) token) → IsFirstRefusalForField (requested_field r) k f why
  duplicated r id has_declaring token why other is =
      let found = other_some (same_name new f) (field_declaring_token r.module_read k new) token other in
      subst (IsFirstRefusalForField (requested_field r) k f) (sym is) (id, has_declaring r.module_read k f new ∙ found.0, ap (option_map (token_range (requested_field r))) found.1)

  pub field_answered : (r : Resolution) → IsWellTyped r → IsIdentifier new → IsFreeFieldName (named_tree_of r.module_read) k f new → RenamingFieldToFreeNameKeepsTypingAndRuns → RenamingChangesFieldTokens → RenamedTreeSpellsRenamedWords
      → ((name : List ℕ) → IsIdentifier name → MayReplaceIdentifier name (name_word name ∷ [])) → AreIdentifierIndexes r.module_read.source.tokens 0 (field_tokens_to_rename r k f new)
      → (result : Result (Vec Edit Global) EditRefusal) → Edited unit text new r.module_read.source (field_tokens_to_rename r k f new) result → AnswersRenamingOfField (requested_field r) k f result
  field_answered r well id free keeps by_tokens spells may_replace names (Ok edits) made =
      let m = r.module_read in
      record {
        identifier = id;
        free = free;
        writes =
            written unit text place new k r (module_with_renamed_field (named_tree_of m) k f new) (field_tokens_to_rename r k f new) id may_replace
            (of_rewritten m (module_with_renamed_field (named_tree_of m) k f new) (field_tokens_to_rename r k f new) new well.resolved.parsed spells names (field_there r k f new well by_tokens))
            (keeps (named_tree_of m) k f new free well.well_typed) edits made;
      }
  field_answered r well id free keeps by_tokens spells may_replace names (Err why) made =
      elim made.refusals [
        | inl e ↦ inr (subst (IsFirstRefusalForField (requested_field r) k f) (sym e) (id, free, made.too_long (ap Err e)))
        | inr e ↦ inl e
      ]

  -- Renaming a field to its present name doesn't make the text too long.
  pub own_field_answered : (r : Resolution) → IsScan r.module_read.source → new ≡ f
      → (result : Result (Vec Edit Global) EditRefusal) → Edited unit text new r.module_read.source (field_tokens_to_rename r k f new) result → FailsOnlyForMemory result
  own_field_answered r scan own (Ok edits) made = tt
  own_field_answered r scan own (Err why) made =
      elim made.refusals [
        | inl e ↦
            let none : field_tokens_to_rename r k f new ≡ [] = ap (λ b. if b then [] else field_tokens_in_module r k f) ((bytes_eq-Decides new f).1 own) in
            absurd (too_long_never r scan (field_tokens_to_rename r k f new) none (made.too_long (ap Err e)))
        | inr e ↦ e
      ]
    where
      too_long_never : (r : Resolution) → IsScan r.module_read.source → (places : List ℕ) → places ≡ [] → max_text_length < length (text_after_replacement r.module_read.source places new) → ⊥
      too_long_never r scan places none long =
          let same = subst (λ places. max_text_length < length (text_after_replacement r.module_read.source places new)) none long in
          omega (arith, same, whole r.module_read.source.text, scan.short)

-- ---- an answer for the field at the place is the answer

field_refused_there : (a : Renaming) (k : ℕ) (f : Name) → TargetsField a k f → (why : EditRefusal) → IsFirstRefusalForField a k f why → IsRenameRefusal a why
field_refused_there a k f means refusal.BadName h = inr (k, (f, means, h))
field_refused_there a k f means (refusal.Duplicate range) h = inr (k, (f, means, h))
field_refused_there a k f means refusal.TooLong h = inr (k, (f, means, h))
field_refused_there a k f means _ h = absurd h

pub field_answered_there : (a : Renaming) (k : ℕ) (f : Name) → TargetsField a k f → (result : Result (Vec Edit Global) EditRefusal) → AnswersRenamingOfField a k f result → RenameAnswers a result
field_answered_there a k f means (Ok edits) h = inr (k, (f, means, h))
field_answered_there a k f means (Err why) h = elim h [ inl e ↦ inl e | inr e ↦ inr (field_refused_there a k f means why e) ]
