-- Proves that the answer to inlining everywhere at the name of a constant is right. `Made` and
-- `IsRefused` carry the facts about the edits over to the module of the contract. If no use is
-- shadowed, `all_seen` shows the premise of the law of inlining everywhere.
use Rattle.std.proofs.Common.{zero, arith, ◌≡◌, ◌⊎◌, ℕ, ℤ, suc, ◌+◌, ◌-◌, ◌<◌, ◌&&◌, ◌||◌, not, Bool, true, false, if◌then◌else◌, Option, Some, None, List, [], ◌∷◌, length, map, refl, sym, ap, ◌∙◌, IsSomeAnd, MatchOption, option_and_then, slice_get, eq-eqb, true≢false}
use Rattle.std.specs.List.{list_any, range_with_len}
use Rattle.ob0_text.specs.declared.edits.Edit.{Edit}
use Rattle.ob0_text.specs.declared.position_types.Unit as counting
use Rattle.ob0_text.specs.declared.refusals.EditRefusal.{EditRefusal}
use Rattle.ob0_text.specs.declared.refusals.EditRefusal.TheVariants.{CommentInside, Memory, Shadowed}
use Rattle.ob0_text.specs.Units.{width_of}
use Rattle.ob0_tree.specs.ParsedModule.{ParsedModule, named_tree_of}
use Rattle.ob0_tree.specs.Tree.{Tree, module_text}
use Rattle.ob0_edits_tokens.specs.Ranges.{range_of}
use Rattle.ob0_edits_tokens.specs.Removals.{span_of_tokens}
use Rattle.ob0_edits_tokens.specs.Replacements.{replacement_at_token, range_and_text}
use Rattle.ob0_language_names.specs.Names.{Label, Name}
use Rattle.ob0_language_names.specs.Occurrences.{labels_of_occurrences, ordinal_bound_at_occurrence, label_ordinal}
use Rattle.ob0_scope_table.specs.Resolution.{Resolution}
use Rattle.ob0_language_names.specs.Scopes.{same_ordinal}
use Rattle.ob0_scope.specs.declared.bound_names.BoundName as named
use Rattle.ob0_scope.specs.NamesAtPlaces.{name_at_offset}
use Rattle.ob0_types.specs.CheckedModules.{IsWellTyped}
use Rattle.ob0_language_types.specs.EditLaws.{ConstantUsesAreFactors, IsConstantWithLiteral, Is32BitScalar, TruthWordMeansPredeclared}
use Rattle.ob0_language_runs.specs.EditLaws.{InliningEverywhereKeepsTypingAndRuns}
use Rattle.ob0_language_values.specs.declared.scalar.Scalar.TheVariants as scalar
use Rattle.ob0_language_values.specs.Scalars.{scalar_value}
use Rattle.ob0_inline.specs.declared.declared_constants.DeclaredConstant.{DeclaredConstant}
use Rattle.ob0_inline.specs.Everywhere.{InlinesEverywhere, IsDeclaredConstant, IsConstantAtOffset, HasNoConstantAtOffset, UsesAreFactors, has_shadowed_use, declaration_has_comment, tree_inlined_everywhere, is_shadowed_use, refusal_of_inlining_everywhere, text_inlined_everywhere, tokens_of_uses}
use Rattle.ob0_inline.specs.Uses.{value_text_keeps_meaning}
use Rattle.ob0_inline.specs.Values.{value_factor, value_text}
use Rattle.ob0_inline.proofs.AtUses.{literal_of, shown_is}
use Rattle.ob0_inline.proofs.Refusals.{MakeText, Refused, other_is_first, refused_first}

-- If a test finds no number in a range, each number of the range fails it.

none_passes : (f : ℕ → Bool) (a n k : ℕ) → list_any f (range_with_len a n) ≡ false → k < n → f (a + k) ≡ false
none_passes f a zero k e h = absurd (omega (arith, h))
none_passes f a (suc n) k e h = by_test (f a) refl e k h (none_passes f (a + 1) n)
  where
    by_test : (b : Bool) → f a ≡ b → (b || list_any f (range_with_len (a + 1) n)) ≡ false → (k : ℕ) → k < suc n
        → ((j : ℕ) → list_any f (range_with_len (a + 1) n) ≡ false → j < n → f (a + 1 + j) ≡ false) → f (a + k) ≡ false
    by_test true q e k h later = absurd (true≢false e)
    by_test false q e zero h later = ap f (let z : a + 0 ≡ a = omega arith in z) ∙ q
    by_test false q e (suc k) h later = ap f (let z : a + suc k ≡ a + 1 + k = omega arith in z) ∙ later k e (omega (arith, h))

-- If a number doesn't pass a test, a number of the range passes exactly if a later one does.
pub passes_further : (f : ℕ → Bool) (a n : ℕ) → a < n → f a ≡ false → list_any f (range_with_len (a + 1) (n - (a + 1))) ≡ list_any f (range_with_len a (n - a))
passes_further f a n h e =
    sym (ap (λ k. list_any f (range_with_len a k)) (let z : n - a ≡ suc (n - (a + 1)) = omega (arith, h) in z) ∙ ap (λ b. b || list_any f (range_with_len (a + 1) (n - (a + 1)))) e)

bound_inside : (ls : List Label) (k d : ℕ) → option_and_then label_ordinal (slice_get ls k) ≡ Some d → k < length ls
bound_inside [] k d e = absurd (cc)
bound_inside (l ∷ ls) zero d e = omega arith
bound_inside (l ∷ ls) (suc k) d e = let h = bound_inside ls k d e in omega (arith, h)

module _ (m : Tree Name module_text) (c : DeclaredConstant) (none : has_shadowed_use m c ≡ false) where
  shown_each : (k : ℕ) → ordinal_bound_at_occurrence m k ≡ Some c.ordinal → value_text_keeps_meaning m k c.value ≡ true
  shown_each k e =
      let here : is_shadowed_use m c k ≡ false = ap (is_shadowed_use m c) (let z : k ≡ 0 + k = omega arith in z) ∙ none_passes (is_shadowed_use m c) 0 (length (labels_of_occurrences m)) k none (bound_inside (labels_of_occurrences m) k c.ordinal e) in
      one (value_text_keeps_meaning m k c.value) (sym (ap (λ o. same_ordinal o c.ordinal && not (value_text_keeps_meaning m k c.value)) e ∙ ap (λ b. b && not (value_text_keeps_meaning m k c.value)) (eq-eqb c.ordinal c.ordinal refl)) ∙ here)
    where
      one : (b : Bool) → not b ≡ false → b ≡ true
      one true e = refl
      one false e = absurd (true≢false e)

  -- At each use, the truth value would be the predeclared name.
  pub all_seen : (k : ℕ) → ordinal_bound_at_occurrence m k ≡ Some c.ordinal → TruthWordMeansPredeclared m k (scalar_value c.value)
  all_seen k e = shown_is m k c.value (shown_each k e)

-- A number is written without a name, so it isn't hidden.
none_of : (f : ℕ → Bool) (ks : List ℕ) → list_any (λ k. f k && false) ks ≡ false
none_of f [] = refl
none_of f (k ∷ ks) = one (f k) ∙ none_of f ks
  where
    one : (b : Bool) → ((b && false) || list_any (λ j. f j && false) ks) ≡ list_any (λ j. f j && false) ks
    one true = refl
    one false = refl

pub numbers_shown : (m : Tree Name module_text) (c : DeclaredConstant) (n : ℤ) → c.value ≡ scalar.Number n → has_shadowed_use m c ≡ false
numbers_shown m c n e =
    (λ i. list_any (λ k. same_ordinal (ordinal_bound_at_occurrence m k) c.ordinal && not (value_text_keeps_meaning m k (e i))) (range_with_len 0 (length (labels_of_occurrences m))))
    ∙ none_of (λ k. same_ordinal (ordinal_bound_at_occurrence m k) c.ordinal) (range_with_len 0 (length (labels_of_occurrences m)))

-- The constant with the name at the place is the constant at the place.
pub constant_named : (m : ParsedModule) (offset : ℕ) (found : named.BoundName) → Some found ≡ name_at_offset m offset → (o : Option DeclaredConstant) → IsSomeAnd o (λ c. (c.ordinal ≡ found.ordinal) × IsDeclaredConstant m c)
    → MatchOption o (HasNoConstantAtOffset m offset) (λ c. IsConstantAtOffset m offset c)
constant_named m offset found e None h = absurd h
constant_named m offset found e (Some c) h =
    record { token = found.token; named = sym e ∙ ap (λ n. Some (let a : named.BoundName = record { token = found.token; ordinal = n } in a)) (sym h.0); is_constant = h.1 }

-- the facts about a constant's edits, or about their refusal, for any reading of the module

pub record Made (r : Resolution) (c : DeclaredConstant) (unit : counting.Unit) (text : List ℕ) (edits : List Edit) : Type 0 where
  pub edits_are : map range_and_text edits ≡ (range_of (width_of unit) text (span_of_tokens r.module_read.source.tokens c.first c.last), []) ∷ map (replacement_at_token unit text r.module_read.source.tokens (value_text c.value)) (tokens_of_uses r.module_read c.ordinal)
  pub make_text : MakeText (UsesAreFactors r.module_read c.ordinal) (text_inlined_everywhere r.module_read c) (tree_inlined_everywhere r.module_read c) unit text edits

abbrev pub IsRefused : Resolution → DeclaredConstant → EditRefusal → Type 0
IsRefused r c refusal = Refused (UsesAreFactors r.module_read c.ordinal) (text_inlined_everywhere r.module_read c) (tree_inlined_everywhere r.module_read c) refusal

abbrev others : Bool → Bool → Option EditRefusal
others hidden comment = if hidden then Some Shadowed else if comment then Some CommentInside else None

module _ (r : Resolution) (well : IsWellTyped r) (c : DeclaredConstant) (constant : IsDeclaredConstant r.module_read c) (law : ConstantUsesAreFactors) (scalar_so : Is32BitScalar (scalar_value c.value)) where
  written_there : IsConstantWithLiteral (named_tree_of r.module_read) c.ordinal (scalar_value c.value) (value_factor c.value)
  written_there = record { value = constant.has_value; scalar = scalar_so; literal = literal_of c.value }

  pub alone_there : UsesAreFactors r.module_read c.ordinal
  unfolding written_there
  alone_there = law (named_tree_of r.module_read) c.ordinal (scalar_value c.value) (value_factor c.value) written_there well.well_typed

  made_first : (unit : counting.Unit) (text : List ℕ) (edits : List Edit) → Made r c unit text edits → (hidden comment : Bool) → has_shadowed_use (named_tree_of r.module_read) c ≡ hidden → declaration_has_comment r.module_read c ≡ comment
      → refusal_of_inlining_everywhere r.module_read c ≡ others hidden comment
  made_first unit text edits h hidden comment e f =
      other_is_first (UsesAreFactors r.module_read c.ordinal) alone_there (text_inlined_everywhere r.module_read c) (tree_inlined_everywhere r.module_read c) (others (has_shadowed_use (named_tree_of r.module_read) c) (declaration_has_comment r.module_read c)) unit text edits h.make_text
      ∙ (λ i. others (e i) (f i))

  pub answer_made : InliningEverywhereKeepsTypingAndRuns → (unit : counting.Unit) (text : List ℕ) (edits : List Edit) → Made r c unit text edits
      → has_shadowed_use (named_tree_of r.module_read) c ≡ false → declaration_has_comment r.module_read c ≡ false → (refusal_of_inlining_everywhere r.module_read c ≡ None) × InlinesEverywhere unit text r.module_read c edits
  answer_made keeps unit text edits h shown bare =
      let kept = keeps (named_tree_of r.module_read) c.ordinal (scalar_value c.value) (value_factor c.value) written_there (all_seen (named_tree_of r.module_read) c shown) well.well_typed in (
        made_first unit text edits h false false shown bare,
        record { everywhere = h.edits_are; leaves = h.make_text.leaves alone_there; well_typed = kept.0; same_runs = kept.1 },
      )

  pub answer_hidden : (unit : counting.Unit) (text : List ℕ) (edits : List Edit) → Made r c unit text edits → has_shadowed_use (named_tree_of r.module_read) c ≡ true → refusal_of_inlining_everywhere r.module_read c ≡ Some Shadowed
  answer_hidden unit text edits h hidden = made_first unit text edits h true (declaration_has_comment r.module_read c) hidden refl

  pub answer_comment : (unit : counting.Unit) (text : List ℕ) (edits : List Edit) → Made r c unit text edits
      → has_shadowed_use (named_tree_of r.module_read) c ≡ false → declaration_has_comment r.module_read c ≡ true → refusal_of_inlining_everywhere r.module_read c ≡ Some CommentInside
  answer_comment unit text edits h shown comment = made_first unit text edits h false true shown comment

  pub answer_not_made : (refusal : EditRefusal) → IsRefused r c refusal → (refusal_of_inlining_everywhere r.module_read c ≡ Some refusal) ⊎ (refusal ≡ Memory)
  answer_not_made =
      refused_first (UsesAreFactors r.module_read c.ordinal) alone_there (text_inlined_everywhere r.module_read c) (tree_inlined_everywhere r.module_read c) (others (has_shadowed_use (named_tree_of r.module_read) c) (declaration_has_comment r.module_read c))
