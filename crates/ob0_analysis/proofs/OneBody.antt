-- Proves that the bindings and types of the previous text can be reused if the text differs from it
-- in only one body.
use Rattle.std.proofs.Common.{◌≡◌, ◌<◌, ◌≤◌, ℕ, zero, suc, ◌+◌, ◌-◌, ◌||◌, Bool, true, false, nat_le, nat_lt, List, [], ◌∷◌, length, Option, Some, None, take, drop, slice_get, refl, sym, ap, ◌∙◌, arith, length-drop}
use Rattle.std.specs.Prelude.{IfSome}
use Rattle.std.proofs.lemmas.Bool.Decides.{nat_tests}
use Rattle.std.proofs.lemmas.List.{length-map}
use Rattle.ob0_scan.specs.ReusedLexemes.{token_kinds_without_values, kind_without_value, words_of_tokens}
use Rattle.ob0_scan.specs.SamePrefixAndSuffix.{PrefixAndSuffixHaveSameKinds, PrefixAndSuffixHaveSameWords}
use Rattle.ob0_scan.specs.TextWithTokens.{TextWithTokens, Word, word_of_token}
use Rattle.ob0_scan.specs.declared.lexeme.Token.{Token}
use Rattle.ob0_scan.specs.declared.tokens.CommonPrefixAndSuffix.{CommonPrefixAndSuffix}
use Rattle.ob0_tree.specs.ParsedModule.{TreeMatchesText, parsed_module}
use Rattle.ob0_tree.specs.declared.tree.ModuleTree.{ModuleTree}
use Rattle.ob0_scope.specs.BindingsBeforeBodyChange.{AreBindingsBeforeBodyChange}
use Rattle.ob0_scope_table.specs.Bindings.{resolution_with_bindings}
use Rattle.ob0_scope_table.specs.BoundsOfBodies.{body_bounds_of_range, module_tree_of}
use Rattle.ob0_scope_table.specs.SpellingChangesInOneBody.{ChangesSpellingsInOneBody, is_outside_range}
use Rattle.ob0_scope_table.specs.declared.one_body.BodyBounds.{BodyBounds}
use Rattle.ob0_scope_table.specs.declared.resolved.Bindings.{Bindings}
use Rattle.ob0_scope_table.proofs.BodyPlaces.{body_place_read}
use Rattle.ob0_types.specs.OneBody.{IsCheckResultBeforeBodyChange}
use Rattle.ob0_types.specs.declared.checked_modules.CheckResult.{CheckResult}
use Rattle.ob0_analysis.specs.OneBody.{IsEarlierModuleWithSameKinds}

pub get_taken : {A : Type 0} (k : ℕ) (xs : List A) (i : ℕ) → i < k → slice_get (take k xs) i ≡ slice_get xs i
get_taken zero xs i less = absurd (omega (arith, less))
get_taken (suc k) [] i less = refl
get_taken (suc k) (x ∷ xs) zero less = refl
get_taken (suc k) (x ∷ xs) (suc i) less = get_taken k xs i (omega (arith, less))

pub get_dropped : {A : Type 0} (k : ℕ) (xs : List A) (i j : ℕ) → k + i ≡ j → slice_get (drop k xs) i ≡ slice_get xs j
get_dropped zero xs i j e = let here : i ≡ j = omega (arith, e) in ap (slice_get xs) here
get_dropped (suc k) [] i j e = refl
get_dropped (suc k) (x ∷ xs) i zero e = absurd (omega (arith, e))
get_dropped (suc k) (x ∷ xs) i (suc j) e = get_dropped k xs i j (omega (arith, e))

module _ (s : CommonPrefixAndSuffix) (old new : TextWithTokens) (alike : token_kinds_without_values new.tokens ≡ token_kinds_without_values old.tokens) (same : PrefixAndSuffixHaveSameKinds s old.tokens new.tokens) (written : PrefixAndSuffixHaveSameWords s old new) where
  abbrev before : List Word
  before = words_of_tokens old.text old.tokens

  abbrev after : List Word
  after = words_of_tokens new.text new.tokens

  as_many : length new.tokens ≡ length old.tokens
  as_many =
      sym (length-map new.tokens (λ (t : Token). kind_without_value t.kind)) ∙ (ap length alike ∙ length-map old.tokens (λ (t : Token). kind_without_value t.kind))

  same_back : s.new_suffix ≡ s.old_suffix
  same_back =
      let left : length after - s.new_suffix ≡ length before - s.old_suffix = sym (length-drop s.new_suffix after) ∙ (ap length written.back ∙ length-drop s.old_suffix before) in
      let a : length after ≡ length new.tokens = length-map new.tokens (word_of_token new.text) in
      let b : length before ≡ length old.tokens = length-map old.tokens (word_of_token old.text) in
      omega (arith, left, a, b, as_many, same.new_inside, same.old_inside)

  same_outside : (i : ℕ) → is_outside_range s.prefix s.old_suffix i ≡ true → slice_get after i ≡ slice_get before i
  same_outside i e = one (nat_lt i s.prefix) refl
    where
      one : (b : Bool) → nat_lt i s.prefix ≡ b → slice_get after i ≡ slice_get before i
      one true h =
          let less : i < s.prefix = grind (arith, nat_tests) in
          sym (get_taken s.prefix after i less) ∙ (ap (λ l. slice_get l i) written.front ∙ get_taken s.prefix before i less)
      one false h =
          let late : s.old_suffix ≤ i = past (nat_le s.old_suffix i) refl (sym (ap (λ b. b || nat_le s.old_suffix i) h) ∙ e) in
          let there : s.new_suffix + (i - s.old_suffix) ≡ i = omega (arith, late, same_back) in
          let here : s.old_suffix + (i - s.old_suffix) ≡ i = omega (arith, late) in
          sym (get_dropped s.new_suffix after (i - s.old_suffix) i there) ∙ (ap (λ l. slice_get l (i - s.old_suffix)) written.back ∙ get_dropped s.old_suffix before (i - s.old_suffix) i here)
        where
          past : (b : Bool) → nat_le s.old_suffix i ≡ b → b ≡ true → s.old_suffix ≤ i
          past true f g = grind (arith, nat_tests)
          past false f g = absurd (cc)

module _ {new : TextWithTokens} {tree : ModuleTree} {b : Bindings} {types : CheckResult} {s : CommonPrefixAndSuffix} (h : IsEarlierModuleWithSameKinds new tree b types s) where
  abbrev BoundsFound : Option BodyBounds → Type 0
  BoundsFound o = o ≡ body_bounds_of_range s.prefix s.old_suffix (module_tree_of tree)

  body_change : (place : BodyBounds) → BoundsFound (Some place) → ChangesSpellingsInOneBody h.earlier_module.old (parsed_module new tree) s.prefix s.old_suffix
  body_change place found = record {
    old_scan = h.earlier_module.old_scan;
    new_scan = h.earlier_module.new_scan;
    same_kinds = h.same_kinds;
    same_words = same_outside s h.earlier_module.old new h.same_kinds h.earlier_module.same h.earlier_module.written;
    in_body = (body_place_read s.prefix s.old_suffix (module_tree_of tree) place (sym found)).is_bound_to_declaration;
  }

  pub was_bound : TreeMatchesText (parsed_module new tree) → (o : Option BodyBounds) → BoundsFound o → IfSome o (λ _. AreBindingsBeforeBodyChange (parsed_module new tree) b s.prefix s.old_suffix)
  was_bound parsed None found = tt
  was_bound parsed (Some place) found = record { old = h.earlier_module.old; change = body_change place found; parsed = parsed; resolved = h.earlier_module.resolved }

  -- The old results for types can be reused, whether the names were bound again or the bindings kept.
  pub were_types : (c : Bindings) → (o : Option BodyBounds) → BoundsFound o → IfSome o (λ place. IsCheckResultBeforeBodyChange (resolution_with_bindings (parsed_module new tree) c) types place.closing)
  were_types c None found = tt
  were_types c (Some place) found =
      record { low = s.prefix; high = s.old_suffix; old = h.earlier_module.old; bindings = b; change = body_change place found; closes = (body_place_read s.prefix s.old_suffix (module_tree_of tree) place (sym found)).closes; types_are = h.earlier_module.types_are }
