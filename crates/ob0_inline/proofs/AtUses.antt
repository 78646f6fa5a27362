-- Proves that the answer to inlining at one use is right. One `subst` carries the facts about the
-- edits over to the module of the contract, as one record (`Made`, `IsRefused`).
use Rattle.std.proofs.Common.{cond, zero, arith, eq-eqb, ◌≡◌, ◌⊎◌, ℕ, suc, ◌+◌, ◌==◌, Bool, true, false, if◌then◌else◌, Option, Some, None, List, [], ◌∷◌, length, map, refl, sym, ap, ◌∙◌, subst, option_and_then, option_map, slice_get, eqb-true, true≢false}
use Rattle.std.specs.List.{flat_map, position_from}
use Rattle.std.proofs.Math.Bool.{or-false}
use Rattle.ob0_text.specs.declared.edits.Edit.{Edit}
use Rattle.ob0_text.specs.declared.position_types.Unit as counting
use Rattle.ob0_text.specs.declared.refusals.EditRefusal.{EditRefusal}
use Rattle.ob0_text.specs.declared.refusals.EditRefusal.TheVariants.{Memory, Shadowed}
use Rattle.ob0_tree.specs.ParsedModule.{named_tree_of}
use Rattle.ob0_tree.specs.Tree.{Tree, module_text, spell}
use Rattle.ob0_edits_tokens.specs.WordReplacements.{changes_at_indexes, changed_words, words_of_text}
use Rattle.ob0_edits_tokens.specs.WordTerminals.{terminal_of_word}
use Rattle.ob0_edits_tokens.proofs.WordsOfTrees.{all_put, put}
use Rattle.ob0_edits_tokens.specs.Replacements.{AreIdentifierIndexes, replacement_at_token, range_and_text, text_after_replacement}
use Rattle.ob0_language_names.specs.Inlining.{set_of_one_occurrence}
use Rattle.ob0_language_names.specs.Names.{Name}
use Rattle.ob0_language_names.specs.Occurrences.{ordinal_bound_at_occurrence}
use Rattle.ob0_language_types.proofs.Leaves.{same_ordinal-true}
use Rattle.ob0_language_types.proofs.Literals.{some_inverse}
use Rattle.ob0_scope_table.specs.Resolution.{IsResolution, Resolution, ordinal_in}
use Rattle.ob0_scope_table.proofs.Bound.{bound_at}
use Rattle.ob0_scope.specs.declared.bound_names.BoundName as named
use Rattle.ob0_scope.specs.BoundTokens.{is_identifier_at_offset}
use Rattle.ob0_scope.specs.NamesAtPlaces.{name_at_offset}
use Rattle.ob0_scope.proofs.Placed.{name_found, named_so}
use Rattle.ob0_language_types.specs.ConstantValues.{constant_value_in_module}
use Rattle.ob0_types.specs.CheckedModules.{IsWellTyped}
use Rattle.ob0_language_types.specs.EditLaws.{AreInlinableUses, ConstantUsesAreFactors, IsConstantWithLiteral, Is32BitScalar, TruthWordMeansPredeclared}
use Rattle.ob0_language_types.specs.ValueLiterals.{value_literal}
use Rattle.ob0_language_runs.specs.EditLaws.{InliningKeepsTypingAndRuns}
use Rattle.ob0_language_values.specs.declared.scalar.Scalar.{Scalar}
use Rattle.ob0_language_values.specs.declared.scalar.Scalar.TheVariants as scalar
use Rattle.ob0_language_values.specs.Scalars.{scalar_value}
use Rattle.ob0_inline.specs.declared.constant_uses.ConstantUse.{ConstantUse}
use Rattle.ob0_inline.specs.Everywhere.{UsesAreFactors}
use Rattle.ob0_inline.specs.EditedModuleTexts.{EditedTextHasTree}
use Rattle.ob0_inline.specs.Uses.{InlinesUse, IsConstantUse, IsConstantUseAtOffset, tree_with_inlined_use, value_text_keeps_meaning, refusal_of_inlining_use}
use Rattle.ob0_inline.specs.Values.{value_factor, value_text, value_words}
use Rattle.ob0_inline.proofs.ModuleTexts.{spelled_by_words, value_spelled}
use Rattle.ob0_inline.proofs.Refusals.{MakeText, Refused, other_is_first, refused_first}
use Rattle.ob0_inline.proofs.UsesAreIdentifiers.{AreBound, one_identifier, one_place, uses_are_identifiers, uses_ascend, uses_spelled}

-- the text that is written for a value, and whether the name in it is the predeclared one

pub literal_of : (value : Scalar) → value_literal (scalar_value value) ≡ Some (value_factor value)
literal_of (scalar.Truth true) = refl
literal_of _ = refl

pub shown_is : (m : Tree Name module_text) (k : ℕ) (value : Scalar) → value_text_keeps_meaning m k value ≡ true → TruthWordMeansPredeclared m k (scalar_value value)
shown_is m k (scalar.Number n) e = tt
shown_is m k (scalar.Truth true) e = same_ordinal-true _ 2 e
shown_is m k (scalar.Truth false) e = same_ordinal-true _ 3 e

-- The use that is found at a place is a use.

some_named : (token ordinal : ℕ) (found : Option ℕ) (ordinals : List (Option ℕ)) → option_and_then (named_so ordinals) found ≡ Some (record { token = token; ordinal = ordinal }) → ordinal_in ordinals token ≡ Some ordinal
some_named token ordinal None ordinals e = absurd (cc)
some_named token ordinal (Some i) ordinals e = go (ordinal_in ordinals i) refl e
  where
    go : (o : Option ℕ) → ordinal_in ordinals i ≡ o → option_map {U = named.BoundName} (λ ordinal. record { token = i; ordinal = ordinal }) o ≡ Some (record { token = token; ordinal = ordinal }) → ordinal_in ordinals token ≡ Some ordinal
    go None q e = absurd (cc)
    go (Some k) q e =
        let same : Some (let n : named.BoundName = record { token = i; ordinal = k } in n) ≡ Some (record { token = token; ordinal = ordinal }) = e in
        ap (ordinal_in ordinals) (sym (ap (λ o. (elim o as (λ _. named.BoundName) [ Some n ↦ n | None ↦ record { token = 0; ordinal = 0 } ]).token) same))
        ∙ (q ∙ ap (λ o. Some ((elim o as (λ _. named.BoundName) [ Some n ↦ n | None ↦ record { token = 0; ordinal = 0 } ]).ordinal)) same)

pub use_is : (r : Resolution) → IsResolution r → (offset : ℕ) (u : ConstantUse) → IsConstantUseAtOffset r.module_read offset u → IsConstantUse r.module_read u
use_is r is offset u h =
    let m = r.module_read in
    let ordinal : ordinal_in r.ordinals u.token ≡ Some u.constant =
    some_named u.token u.constant (position_from (is_identifier_at_offset offset) 0 m.source.tokens) r.ordinals (name_found r offset is ∙ h.named) in
    let there : slice_get r.uses u.occurrence ≡ Some u.token = ap (λ us. slice_get us u.occurrence) is.occurring ∙ h.occurs in
    record {
      occurs = h.occurs;
      bound = sym (bound_at r is u.occurrence (Some u.token) (sym there)) ∙ ordinal;
      has_value = h.has_value;
    }

module _ (r : Resolution) (is : IsResolution r) (u : ConstantUse) (use_so : IsConstantUse r.module_read u) where
  there : slice_get r.uses u.occurrence ≡ Some u.token
  there = ap (λ us. slice_get us u.occurrence) is.occurring ∙ use_so.occurs

  pub are_names : AreIdentifierIndexes r.module_read.source.tokens 0 (u.token ∷ [])
  unfolding there
  are_names =
      let one = one_identifier r.module_read.source.tokens r.uses u.occurrence u.token (uses_are_identifiers r is) there in
      (omega arith, one.0, one.1 _, tt)

  are_bound : AreBound r u.constant (u.token ∷ [])
  unfolding there
  are_bound = (((u.occurrence, there), bound_at r is u.occurrence (Some u.token) (sym there) ∙ use_so.bound), tt)

  -- The words, with the value's words in place of the use, spell the inlined module.
  pub here_spelled : UsesAreFactors r.module_read u.constant
      → map terminal_of_word (changed_words (changes_at_indexes (u.token ∷ []) (value_words u.value)) 0 (words_of_text r.module_read.source)) ≡ spell (tree_with_inlined_use r.module_read u)
  here_spelled alone =
      let s = r.module_read.source in
      let places = u.token ∷ [] in
      let vs = value_words u.value in
      sym (all_put s places vs are_names) ∙ ap (flat_map (put s places vs)) (sym (spelled_by_words r.module_read is.parsed))
      ∙ uses_spelled r is u.constant (value_factor u.value) places are_bound (set_of_one_occurrence u.occurrence)
      (λ j i e. or-false (i == u.token) ∙ one_place 0 (length s.tokens) r.uses j u.occurrence i u.token (uses_ascend r is) e there) alone vs (value_spelled u.value)

module _ (r : Resolution) (well : IsWellTyped r) (u : ConstantUse) (use_so : IsConstantUse r.module_read u) where
  written : Is32BitScalar (scalar_value u.value) → IsConstantWithLiteral (named_tree_of r.module_read) u.constant (scalar_value u.value) (value_factor u.value)
  written fits_so = record { value = use_so.has_value; scalar = fits_so; literal = literal_of u.value }

  pub is_alone : ConstantUsesAreFactors → Is32BitScalar (scalar_value u.value) → UsesAreFactors r.module_read u.constant
  is_alone law fits_so = law (named_tree_of r.module_read) u.constant (scalar_value u.value) (value_factor u.value) (written fits_so) well.well_typed

  shown_so : value_text_keeps_meaning (named_tree_of r.module_read) u.occurrence u.value ≡ true → TruthWordMeansPredeclared (named_tree_of r.module_read) u.occurrence (scalar_value u.value)
  shown_so e = shown_is (named_tree_of r.module_read) u.occurrence u.value e

  uses_so : value_text_keeps_meaning (named_tree_of r.module_read) u.occurrence u.value ≡ true → AreInlinableUses (named_tree_of r.module_read) u.constant (scalar_value u.value) (set_of_one_occurrence u.occurrence)
  uses_so e =
      let m = named_tree_of r.module_read in
      record {
        bound = λ k h. ap (ordinal_bound_at_occurrence m) (eqb-true k u.occurrence h) ∙ use_so.bound;
        seen = λ k h. subst (λ n. TruthWordMeansPredeclared m n (scalar_value u.value)) (sym (eqb-true k u.occurrence h)) (shown_so e);
      }

  -- The edits leave the inlined module.
  pub inlines : InliningKeepsTypingAndRuns → Is32BitScalar (scalar_value u.value) → (unit : counting.Unit) (text : List ℕ) (edits : List Edit)
      → map range_and_text edits ≡ replacement_at_token unit text r.module_read.source.tokens (value_text u.value) u.token ∷ []
      → EditedTextHasTree unit text edits (tree_with_inlined_use r.module_read u)
      → value_text_keeps_meaning (named_tree_of r.module_read) u.occurrence u.value ≡ true → InlinesUse unit text r.module_read u edits
  inlines law fits_so unit text edits made leaves shown =
      let kept = law (named_tree_of r.module_read) u.constant (scalar_value u.value) (value_factor u.value) (set_of_one_occurrence u.occurrence) (written fits_so) (uses_so shown) well.well_typed in
      record { here = made; leaves = leaves; well_typed = kept.0; same_runs = kept.1 }

-- the facts about a use's edits, or about their refusal, for any reading of the module

abbrev pub new_text : Resolution → ConstantUse → List ℕ
new_text r u = text_after_replacement r.module_read.source (u.token ∷ []) (value_text u.value)

pub record Made (r : Resolution) (u : ConstantUse) (unit : counting.Unit) (text : List ℕ) (edits : List Edit) : Type 0 where
  pub edits_are : map range_and_text edits ≡ replacement_at_token unit text r.module_read.source.tokens (value_text u.value) u.token ∷ []
  pub make_text : MakeText (UsesAreFactors r.module_read u.constant) (new_text r u) (tree_with_inlined_use r.module_read u) unit text edits

abbrev pub IsRefused : Resolution → ConstantUse → EditRefusal → Type 0
IsRefused r u refusal = Refused (UsesAreFactors r.module_read u.constant) (new_text r u) (tree_with_inlined_use r.module_read u) refusal

module _ (r : Resolution) (well : IsWellTyped r) (u : ConstantUse) (use_so : IsConstantUse r.module_read u) (law : ConstantUsesAreFactors) (scalar_so : Is32BitScalar (scalar_value u.value)) where
  abbrev hidden : Bool → Option EditRefusal
  hidden shown = if shown then None else Some Shadowed

  made_first : (unit : counting.Unit) (text : List ℕ) (edits : List Edit) → Made r u unit text edits → (shown : Bool) → value_text_keeps_meaning (named_tree_of r.module_read) u.occurrence u.value ≡ shown
      → refusal_of_inlining_use r.module_read u ≡ hidden shown
  made_first unit text edits h shown e =
      other_is_first (UsesAreFactors r.module_read u.constant) (is_alone r well u use_so law scalar_so) (new_text r u) (tree_with_inlined_use r.module_read u) (hidden (value_text_keeps_meaning (named_tree_of r.module_read) u.occurrence u.value)) unit text edits h.make_text
      ∙ ap hidden e

  pub answer_ok : InliningKeepsTypingAndRuns → (unit : counting.Unit) (text : List ℕ) (edits : List Edit) → Made r u unit text edits → value_text_keeps_meaning (named_tree_of r.module_read) u.occurrence u.value ≡ true
      → (refusal_of_inlining_use r.module_read u ≡ None) × InlinesUse unit text r.module_read u edits
  answer_ok keeps unit text edits h shown =
      (made_first unit text edits h true shown, inlines r well u use_so keeps scalar_so unit text edits h.edits_are (h.make_text.leaves (is_alone r well u use_so law scalar_so)) shown)

  pub answer_shadowed : (unit : counting.Unit) (text : List ℕ) (edits : List Edit) → Made r u unit text edits → value_text_keeps_meaning (named_tree_of r.module_read) u.occurrence u.value ≡ false
      → refusal_of_inlining_use r.module_read u ≡ Some Shadowed
  answer_shadowed unit text edits h shown = made_first unit text edits h false shown

  pub answer_refused : (refusal : EditRefusal) → IsRefused r u refusal → (refusal_of_inlining_use r.module_read u ≡ Some refusal) ⊎ (refusal ≡ Memory)
  answer_refused =
      refused_first (UsesAreFactors r.module_read u.constant) (is_alone r well u use_so law scalar_so) (new_text r u) (tree_with_inlined_use r.module_read u) (hidden (value_text_keeps_meaning (named_tree_of r.module_read) u.occurrence u.value))

-- A search finds the first entry that is this token, with its index.
pub found_there : (token j k : ℕ) (is : List ℕ) → position_from (λ i. i == token) j is ≡ Some k → (n : ℕ) × (k ≡ j + n) × (slice_get is n ≡ Some token)
found_there token j k [] e = absurd (cc)
found_there token j k (i ∷ is) e = by_test (i == token) refl e (found_there token (j + 1) k is)
  where
    by_test : (b : Bool) → (i == token) ≡ b → cond b (Some j) (position_from (λ i. i == token) (j + 1) is) ≡ Some k
        → (position_from (λ i. i == token) (j + 1) is ≡ Some k → (n : ℕ) × (k ≡ j + 1 + n) × (slice_get is n ≡ Some token)) → (n : ℕ) × (k ≡ j + n) × (slice_get (i ∷ is) n ≡ Some token)
    by_test true q e later = let same : j ≡ k = some_inverse e in (0, omega (arith, same), ap Some (eqb-true i token q))
    by_test false q e later = let h = later e in (suc h.0, omega (arith, h.1), h.2)

pub not_there : (token j n : ℕ) (is : List ℕ) → position_from (λ i. i == token) j is ≡ None → slice_get is n ≡ Some token → ⊥
not_there token j n [] e f = cc
not_there token j n (i ∷ is) e f = by_test (i == token) refl e n f (λ m. not_there token (j + 1) m is)
  where
    by_test : (b : Bool) → (i == token) ≡ b → cond b (Some j) (position_from (λ i. i == token) (j + 1) is) ≡ None → (n : ℕ) → slice_get (i ∷ is) n ≡ Some token
        → ((m : ℕ) → position_from (λ i. i == token) (j + 1) is ≡ None → slice_get is m ≡ Some token → ⊥) → ⊥
    by_test true q e n f later = cc
    by_test false q e zero f later = true≢false (sym (eq-eqb i token (some_inverse f)) ∙ q)
    by_test false q e (suc n) f later = later n e f

-- the use at a name that was found at a place

named_token : (found : named.BoundName) (token ordinal : ℕ) → Some found ≡ Some (record { token = token; ordinal = ordinal }) → found.token ≡ token
named_token found token ordinal e = ap (λ (o : Option named.BoundName). (elim o as (λ _. named.BoundName) [ Some n ↦ n | None ↦ found ]).token) e

pub use_found : (r : Resolution) → IsWellTyped r → (offset : ℕ) (found : named.BoundName) (k : ℕ) (value : Scalar) → Some found ≡ name_at_offset r.module_read offset
    → position_from (λ i. i == found.token) 0 r.uses ≡ Some k → option_map scalar_value (Some value) ≡ constant_value_in_module (named_tree_of r.module_read) found.ordinal
    → IsConstantUseAtOffset r.module_read offset (record { token = found.token; occurrence = k; constant = found.ordinal; value = value })
use_found r well offset found k value e at has_value =
    let h = found_there found.token 0 k r.uses at in
    let same : k ≡ h.0 = omega (arith, h.1) in
    record {
      named = sym e;
      occurs = ap (λ us. slice_get us k) (sym well.resolved.occurring) ∙ (ap (slice_get r.uses) same ∙ h.2);
      has_value = sym has_value;
    }

pub use_is_one : (r : Resolution) → IsWellTyped r → (offset : ℕ) (made u : ConstantUse) → IsConstantUseAtOffset r.module_read offset made → Some made ≡ Some u → IsConstantUse r.module_read u
use_is_one r well offset made u h e =
    subst (IsConstantUse r.module_read) (ap (λ (o : Option ConstantUse). elim o as (λ _. ConstantUse) [ Some n ↦ n | None ↦ made ]) e) (use_is r well.resolved offset made h)

pub no_use : (r : Resolution) → IsWellTyped r → (offset : ℕ) (found : named.BoundName) → Some found ≡ name_at_offset r.module_read offset
    → position_from (λ i. i == found.token) 0 r.uses ≡ None → (u : ConstantUse) → IsConstantUseAtOffset r.module_read offset u → ⊥
no_use r well offset found e none u h =
    not_there found.token 0 u.occurrence r.uses none
    (ap (λ us. slice_get us u.occurrence) well.resolved.occurring ∙ (h.occurs ∙ ap Some (sym (named_token found u.token u.constant (e ∙ h.named)))))
