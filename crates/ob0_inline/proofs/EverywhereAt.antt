-- Proves which uses a constant has. Also proves which words remain after its value replaces them
-- and its declaration is removed.
use Rattle.std.proofs.Common.{◌≡◌, ℕ, zero, suc, ◌+◌, ◌<◌, ◌==◌, ◌||◌, ◌&&◌, Bool, true, false, cond, Option, Some, None, List, [], ◌∷◌, map, length, refl, sym, ap, ◌∙◌, arith, slice_get, eqb-true, eq-eqb}
use Rattle.std.specs.List.{filter}
use Rattle.ob0_scan.specs.declared.lexeme.Token.{Token}
use Rattle.ob0_scan.specs.TextWithTokens.{Word}
use Rattle.ob0_tree.specs.IdentifierIndexes.{AreIdentifierTokens, AreAscendingWithin}
use Rattle.ob0_tree.specs.ParsedModule.{named_tree_of, tree_of}
use Rattle.ob0_tree.specs.Tree.{Tree, factor, occurrences, spell}
use Rattle.ob0_tree.proofs.Leaves.{ascending_lower}
use Rattle.ob0_edits_tokens.specs.WordReplacements.{changes_at_indexes, changed_words, is_in_list, words_of_text}
use Rattle.ob0_edits_tokens.specs.WordsOfTrees.{indexed_terminals_of_words}
use Rattle.ob0_edits_tokens.specs.Removals.{changes_with_removal}
use Rattle.ob0_edits_tokens.specs.Replacements.{AreIdentifierIndexes}
use Rattle.ob0_edits_tokens.specs.WordTerminals.{terminal_of_word}
use Rattle.ob0_language_names.specs.Inlining.{occurrences_bound_to_ordinal, module_with_constant_inlined_everywhere}
use Rattle.ob0_language_names.specs.Names.{Name}
use Rattle.ob0_language_names.specs.BlockParts.{module_block}
use Rattle.ob0_language_types.proofs.Leaves.{same_ordinal-true}
use Rattle.ob0_scope_table.specs.Resolution.{IsResolution, Resolution, ordinal_in}
use Rattle.ob0_language_names.specs.Scopes.{same_ordinal}
use Rattle.ob0_scope_table.proofs.Bound.{bound_at}
use Rattle.ob0_language_types.specs.ConstantValues.{constant_value_in_module}
use Rattle.ob0_language_values.specs.Values.{Value}
use Rattle.ob0_inline.specs.Everywhere.{UsesAreFactors}
use Rattle.ob0_inline.proofs.UsesFollow.{late_of, uses_following}
use Rattle.ob0_inline.proofs.Late.{Late}
use Rattle.ob0_scope_table.proofs.Declared.{names_in}
use Rattle.ob0_inline.proofs.TakenOut.{gone_module}
use Rattle.ob0_inline.proofs.UsesAreIdentifiers.{AreBound, names_from, others_spelled, uses_are_identifiers, uses_ascend}
use Rattle.ob0_inline.proofs.WordsLeft.{first_bound_token, last_token, words_left}

-- returns the tokens that are bound to d
abbrev pub bound_tokens : List (Option ℕ) → ℕ → List ℕ → List ℕ
bound_tokens ordinals d is = filter (λ i. same_ordinal (ordinal_in ordinals i) d) is

bound_ascend : (ordinals : List (Option ℕ)) (d low high : ℕ) (is : List ℕ) → AreAscendingWithin low is high → AreAscendingWithin low (bound_tokens ordinals d is) high
bound_ascend ordinals d low high [] a = a
bound_ascend ordinals d low high (i ∷ is) a =
    elim (same_ordinal (ordinal_in ordinals i) d) as (λ b. AreAscendingWithin low (cond b (i ∷ bound_tokens ordinals d is) (bound_tokens ordinals d is)) high)
    [ true ↦ (a.0, bound_ascend ordinals d (i + 1) high is a.1) | false ↦ ascending_lower low (i + 1) (bound_tokens ordinals d is) high (omega (arith, a.0)) (bound_ascend ordinals d (i + 1) high is a.1) ]

bound_are_identifiers : (ts : List Token) (ordinals : List (Option ℕ)) (d : ℕ) (is : List ℕ) → AreIdentifierTokens ts is → AreIdentifierTokens ts (bound_tokens ordinals d is)
bound_are_identifiers ts ordinals d [] h = tt
bound_are_identifiers ts ordinals d (i ∷ is) h =
    elim (same_ordinal (ordinal_in ordinals i) d) as (λ b. AreIdentifierTokens ts (cond b (i ∷ bound_tokens ordinals d is) (bound_tokens ordinals d is)))
    [ true ↦ (h.0, bound_are_identifiers ts ordinals d is h.1) | false ↦ bound_are_identifiers ts ordinals d is h.1 ]

-- If the tokens that are bound to d are after a token, they ascend from there.
from_there : (ordinals : List (Option ℕ)) (d low high last : ℕ) (is : List ℕ) → AreAscendingWithin low (bound_tokens ordinals d is) high → last < high → ((j i : ℕ) → slice_get is j ≡ Some i → ordinal_in ordinals i ≡ Some d → last < i)
    → AreAscendingWithin (suc last) (bound_tokens ordinals d is) high
from_there ordinals d low high last [] a inside h = omega (arith, inside)
from_there ordinals d low high last (i ∷ is) a inside h =
    (elim (same_ordinal (ordinal_in ordinals i) d) as (λ b. same_ordinal (ordinal_in ordinals i) d ≡ b → AreAscendingWithin low (cond b (i ∷ bound_tokens ordinals d is) (bound_tokens ordinals d is)) high
    → AreAscendingWithin (suc last) (cond b (i ∷ bound_tokens ordinals d is) (bound_tokens ordinals d is)) high)
    [ true ↦ (λ e a. let over = h 0 i refl (same_ordinal-true (ordinal_in ordinals i) d e) in (omega (arith, over), a.1)) | false ↦ (λ e a. from_there ordinals d low high last is a inside (λ j x f. h (suc j) x f)) ]) refl a

are_bound : (r : Resolution) (d : ℕ) (is : List ℕ) → ((j i : ℕ) → slice_get is j ≡ Some i → (k : ℕ) × (slice_get r.uses k ≡ Some i)) → AreBound r d (bound_tokens r.ordinals d is)
are_bound r d [] h = tt
are_bound r d (i ∷ is) h =
    (elim (same_ordinal (ordinal_in r.ordinals i) d) as (λ b. same_ordinal (ordinal_in r.ordinals i) d ≡ b → AreBound r d (cond b (i ∷ bound_tokens r.ordinals d is) (bound_tokens r.ordinals d is))) [
      | true ↦ (λ e. ((h 0 i refl, same_ordinal-true (ordinal_in r.ordinals i) d e), are_bound r d is (λ j x f. h (suc j) x f)))
      | false ↦ (λ e. are_bound r d is (λ j x f. h (suc j) x f))
    ]) refl

-- A token of the list is among the tokens that are bound to d exactly if it is bound to d.
among_bound : (ordinals : List (Option ℕ)) (d i : ℕ) (is : List ℕ) → is_in_list i (bound_tokens ordinals d is) ≡ (same_ordinal (ordinal_in ordinals i) d && is_in_list i is)
among_bound ordinals d i [] = none (same_ordinal (ordinal_in ordinals i) d)
  where
    none : (b : Bool) → false ≡ (b && false)
    none true = refl
    none false = refl
among_bound ordinals d i (x ∷ is) = one (same_ordinal (ordinal_in ordinals x) d) refl (i == x) refl (among_bound ordinals d i is)
  where
    one : (b : Bool) → same_ordinal (ordinal_in ordinals x) d ≡ b → (c : Bool) → (i == x) ≡ c → is_in_list i (bound_tokens ordinals d is) ≡ (same_ordinal (ordinal_in ordinals i) d && is_in_list i is)
        → is_in_list i (cond b (x ∷ bound_tokens ordinals d is) (bound_tokens ordinals d is)) ≡ (same_ordinal (ordinal_in ordinals i) d && (c || is_in_list i is))
    one true p true q e =
        let here : same_ordinal (ordinal_in ordinals i) d ≡ true = ap (λ k. same_ordinal (ordinal_in ordinals k) d) (eqb-true i x q) ∙ p in
        ap (λ b. b || is_in_list i (bound_tokens ordinals d is)) q ∙ sym (ap (λ b. b && true) here)
    one true p false q e = ap (λ b. b || is_in_list i (bound_tokens ordinals d is)) q ∙ e
    one false p true q e =
        let here : same_ordinal (ordinal_in ordinals i) d ≡ false = ap (λ k. same_ordinal (ordinal_in ordinals k) d) (eqb-true i x q) ∙ p in
        e ∙ ((λ j. here j && is_in_list i is) ∙ sym (ap (λ b. b && true) here))
    one false p false q e = e

in_list : (is : List ℕ) (j i : ℕ) → slice_get is j ≡ Some i → is_in_list i is ≡ true
in_list [] j i e = absurd (cc)
in_list (x ∷ is) zero i e = ap (λ b. b || is_in_list i is) (eq-eqb i x (sym (ap (λ (z : Option ℕ). elim z [ Some n ↦ n | None ↦ x ]) e)))
in_list (x ∷ is) (suc j) i e = ap (λ b. (i == x) || b) (in_list is j i e) ∙ either (i == x)
  where
    either : (b : Bool) → (b || true) ≡ true
    either true = refl
    either false = refl

agree : (r : Resolution) → IsResolution r → (d j i : ℕ) → slice_get r.uses j ≡ Some i → is_in_list i (bound_tokens r.ordinals d r.uses) ≡ occurrences_bound_to_ordinal (named_tree_of r.module_read) d j
agree r is d j i e =
    among_bound r.ordinals d i r.uses
    ∙ (ap (λ b. same_ordinal (ordinal_in r.ordinals i) d && b) (in_list r.uses j i e)
    ∙ (and_true (same_ordinal (ordinal_in r.ordinals i) d) ∙ ap (λ o. same_ordinal o d) (bound_at r is j (Some i) (sym e))))
  where
    and_true : (b : Bool) → (b && true) ≡ b
    and_true true = refl
    and_true false = refl

module _ (r : Resolution) (is : IsResolution r) (d : ℕ) (w : Value) (has_value : constant_value_in_module (named_tree_of r.module_read) d ≡ Some w) (spelled : spell (tree_of r.module_read) ≡ indexed_terminals_of_words 0 (words_of_text r.module_read.source)) where
  -- the places of the constant's declaration and uses among the module's tokens
  abbrev pub late_here : Late d 7 (names_in (module_block (tree_of r.module_read))) (indexed_terminals_of_words 0 (words_of_text r.module_read.source)) (spell (gone_module d (tree_of r.module_read))) (occurrences (tree_of r.module_read))
      (map (ordinal_in r.ordinals) (occurrences (tree_of r.module_read)))
  late_here = late_of r is d w has_value spelled

  -- The uses are names after the declaration, in text order.
  pub uses_are_names : last_token late_here.taken < length r.module_read.source.tokens → AreIdentifierIndexes r.module_read.source.tokens (suc (last_token late_here.taken)) (bound_tokens r.ordinals d r.uses)
  uses_are_names inside =
      let ts = r.module_read.source.tokens in
      names_from ts (suc (last_token late_here.taken)) (length ts) (bound_tokens r.ordinals d r.uses)
      (from_there r.ordinals d 0 (length ts) (last_token late_here.taken) r.uses (bound_ascend r.ordinals d 0 (length ts) r.uses (uses_ascend r is)) inside
      (λ j i e o. uses_following r d (names_in (module_block (tree_of r.module_read))) (spell (gone_module d (tree_of r.module_read))) late_here j i (ap (λ us. slice_get us j) (sym is.occurring) ∙ e) o))
      (bound_are_identifiers ts r.ordinals d r.uses (uses_are_identifiers r is))

  -- The remaining words spell the module with the factor in place of all uses, and without the
  -- declaration.
  pub words_everywhere : (v : Tree Name factor) (vs : List Word) → map terminal_of_word vs ≡ spell v → UsesAreFactors r.module_read d
      → AreIdentifierIndexes r.module_read.source.tokens (suc (last_token late_here.taken)) (bound_tokens r.ordinals d r.uses)
      → map terminal_of_word (changed_words (changes_with_removal (first_bound_token late_here.taken) (last_token late_here.taken) (changes_at_indexes (bound_tokens r.ordinals d r.uses) vs)) 0 (words_of_text r.module_read.source))
      ≡ spell (module_with_constant_inlined_everywhere (named_tree_of r.module_read) d v)
  words_everywhere v vs same alone are_names =
      let m = r.module_read in
      let places = bound_tokens r.ordinals d r.uses in
      words_left m.source (suc (last_token late_here.taken)) places are_names vs d 7 (names_in (module_block (tree_of m))) (spell (gone_module d (tree_of m))) late_here.taken
      ∙ others_spelled r is d v places (are_bound r d r.uses (λ j i e. (j, e))) (occurrences_bound_to_ordinal (named_tree_of m) d) (agree r is d) alone vs same
