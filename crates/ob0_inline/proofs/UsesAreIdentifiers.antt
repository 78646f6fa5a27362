-- Proves that the occurrences that are bound to a constant are identifiers in text order. If other
-- words replace them, the tokens of the text are the tokens of the inlined tree.
use Rattle.std.proofs.Common.{◌≡◌, ◌≢◌, ℕ, zero, suc, ◌+◌, ◌≤◌, ◌==◌, ◌||◌, Bool, true, false, Option, Some, None, List, [], ◌∷◌, map, length, refl, sym, ap, ◌∙◌, subst, arith, slice_get, eqb-true, eq-eqb, true≢false}
use Rattle.std.specs.List.{All, flat_map}
use Rattle.std.proofs.lemmas.List.Elements.{All-head, All-tail}
use Rattle.ob0_scan.specs.declared.lexeme.Token.{Token}
use Rattle.ob0_scan.specs.TextWithTokens.{Word, word_of_token}
use Rattle.ob0_tree.specs.declared.tree.Role.{Role}
use Rattle.ob0_tree.specs.declared.tree.Role.TheVariants as role
use Rattle.ob0_tree.specs.IdentifierIndexes.{AreIdentifierTokens, AreAscendingWithin, IsIdentifierToken, names_without_roles}
use Rattle.ob0_tree.specs.ParsedModule.{named_tree_of, tree_of}
use Rattle.ob0_tree.specs.TokenIndexLeaves as leaf
use Rattle.ob0_tree.specs.Terminals.{Terminal}
use Rattle.ob0_tree.specs.Tree.{Tree, factor, identifiers, mapped_tree, occurrences, spell}
use Rattle.ob0_tree.proofs.Leaves.{leaves_are_identifiers, leaves_ascend, ascending_lower}
use Rattle.ob0_tree.proofs.Occurring.{looked_up_only, looked_up-occurrences}
use Rattle.ob0_edits_tokens.specs.WordReplacements.{is_in_list}
use Rattle.ob0_edits_tokens.specs.WordsOfTrees.{integer_value_at, word_text_at}
use Rattle.ob0_edits_tokens.specs.Replacements.{AreIdentifierIndexes}
use Rattle.ob0_edits_tokens.specs.WordTerminals.{terminal_of_word}
use Rattle.ob0_edits_tokens.proofs.WordsOfTrees.{put, replaced}
use Rattle.ob0_language_names.specs.NonFactorNames.{non_factor_occurrences}
use Rattle.ob0_language_names.specs.Inlining.{OccurrenceSet, inline_in_tree, module_without_constant}
use Rattle.ob0_language_names.specs.Names.{Label, Name, naming_by_spelling, declared}
use Rattle.ob0_language_types.proofs.Literals.{some_inverse}
use Rattle.ob0_scope_table.specs.Resolution.{IsResolution, Resolution, label_from_table, ordinal_in}
use Rattle.ob0_language_names.specs.Scopes.{label_from_ordinal}
use Rattle.ob0_scope.proofs.SeenInPlaces.{AllMarked, occurrence_table, uses_reported}
use Rattle.ob0_inline.specs.Everywhere.{UsesAreFactors}
use Rattle.ob0_inline.proofs.Spelled.{Agrees, NoneIs, agrees_each, module_spelled, spelled}
use Rattle.ob0_inline.proofs.TakenOut.{gone_module}

-- Identifiers in text order are names in text order.
pub names_from : (ts : List Token) (low high : ℕ) (is : List ℕ) → AreAscendingWithin low is high → AreIdentifierTokens ts is → AreIdentifierIndexes ts low is
names_from ts low high [] a h = tt
names_from ts low high (i ∷ is) a h =
    let next : i + 1 ≡ suc i = omega arith in
    (a.0, h.0.0, h.0.1 _, subst (λ n. AreIdentifierIndexes ts n is) next (names_from ts (i + 1) high is a.1 h.1))

-- The identifiers of a module that are looked up ascend.
looked_up_ascend : (low high : ℕ) (xs : List (Role × ℕ)) → AreAscendingWithin low (names_without_roles xs) high → AreAscendingWithin low (looked_up_only xs) high
looked_up_ascend low high [] a = a
looked_up_ascend low high ((role.LookedUpName, i) ∷ xs) a = (a.0, looked_up_ascend (i + 1) high xs a.1)
looked_up_ascend low high ((_, i) ∷ xs) a = ascending_lower low (i + 1) _ high (omega (arith, a.0)) (looked_up_ascend (i + 1) high xs a.1)

looked_up_are_identifiers : (ts : List Token) (xs : List (Role × ℕ)) → AreIdentifierTokens ts (names_without_roles xs) → AreIdentifierTokens ts (looked_up_only xs)
looked_up_are_identifiers ts [] h = tt
looked_up_are_identifiers ts ((role.LookedUpName, i) ∷ xs) h = (h.0, looked_up_are_identifiers ts xs h.1)
looked_up_are_identifiers ts ((_, i) ∷ xs) h = looked_up_are_identifiers ts xs h.1

found_looked_up : (r : Resolution) → IsResolution r → looked_up_only (identifiers role.DeclaringName (tree_of r.module_read)) ≡ r.uses
found_looked_up r is = looked_up-occurrences role.DeclaringName (λ n xs. refl) (tree_of r.module_read) ∙ sym is.occurring

pub uses_ascend : (r : Resolution) → IsResolution r → AreAscendingWithin 0 r.uses (length r.module_read.source.tokens)
uses_ascend r is =
    let m = r.module_read in
    subst (λ xs. AreAscendingWithin 0 xs (length m.source.tokens)) (found_looked_up r is)
    (looked_up_ascend 0 (length m.source.tokens) (identifiers role.DeclaringName (tree_of m)) (leaves_ascend m is.parsed))

pub uses_are_identifiers : (r : Resolution) → IsResolution r → AreIdentifierTokens r.module_read.source.tokens r.uses
uses_are_identifiers r is =
    let m = r.module_read in
    subst (AreIdentifierTokens m.source.tokens) (found_looked_up r is) (looked_up_are_identifiers m.source.tokens (identifiers role.DeclaringName (tree_of m)) (leaves_are_identifiers m is.parsed))

pub one_identifier : (ts : List Token) (is : List ℕ) (k i : ℕ) → AreIdentifierTokens ts is → slice_get is k ≡ Some i → IsIdentifierToken ts i
one_identifier ts [] k i h e = absurd (cc)
one_identifier ts (x ∷ is) zero i h e = subst (IsIdentifierToken ts) (some_inverse e) h.0
one_identifier ts (x ∷ is) (suc k) i h e = one_identifier ts is k i h.1 e

-- holds if the places are tokens of occurrences that are bound to d
abbrev pub AreBound : Resolution → ℕ → List ℕ → Type 0
AreBound r d [] = Unit {0}
AreBound r d (p ∷ ps) = (((k : ℕ) × (slice_get r.uses k ≡ Some p)) × (ordinal_in r.ordinals p ≡ Some d)) × AreBound r d ps

in_table : (table : List (Option ℕ)) (xs : List (Role × ℕ)) (k i : ℕ) → AllMarked table xs → slice_get (looked_up_only xs) k ≡ Some i → ordinal_in table i ≡ Some 0
in_table table [] k i a e = absurd (cc)
in_table table ((role.LookedUpName, x) ∷ xs) zero i a e = ap (ordinal_in table) (sym (some_inverse e)) ∙ a.0
in_table table ((role.LookedUpName, x) ∷ xs) (suc k) i a e = in_table table xs k i a.1 e
in_table table ((_, x) ∷ xs) k i a e = in_table table xs k i a.1 e

-- states that a token is an occurrence's token, and is bound to d
record AtBound (r : Resolution) (d i : ℕ) : Type 0 where
  occurs : ordinal_in (occurrence_table r) i ≡ Some 0
  bound : ordinal_in r.ordinals i ≡ Some d

among_bound : (r : Resolution) → IsResolution r → (d i : ℕ) (places : List ℕ) → AreBound r d places → is_in_list i places ≡ true → AtBound r d i
among_bound r is d i [] h e = absurd (true≢false (sym e))
among_bound r is d i (p ∷ ps) h e = by_test (i == p) refl e (among_bound r is d i ps h.1)
  where
    by_test : (b : Bool) → (i == p) ≡ b → (b || is_in_list i ps) ≡ true → (is_in_list i ps ≡ true → AtBound r d i) → AtBound r d i
    by_test true q e later =
        let k = h.0.0 in
        let here : i ≡ p = eqb-true i p q in
        let there : slice_get (looked_up_only (identifiers role.DeclaringName (tree_of r.module_read))) k.0 ≡ Some p = ap (λ us. slice_get us k.0) (found_looked_up r is) ∙ k.1 in
        record {
          occurs = ap (ordinal_in (occurrence_table r)) here ∙ in_table (occurrence_table r) (identifiers role.DeclaringName (tree_of r.module_read)) k.0 p (uses_reported r is) there;
          bound = ap (ordinal_in r.ordinals) here ∙ h.0.1;
        }
    by_test false q e later = later e

not_among : (i : ℕ) (places : List ℕ) → (is_in_list i places ≡ true → ⊥) → is_in_list i places ≡ false
not_among i places h = (elim (is_in_list i places) as (λ b. is_in_list i places ≡ b → b ≡ false) [ true ↦ (λ e. absurd (h e)) | false ↦ (λ e. refl) ]) refl

none_is : (d : ℕ) (ls : List Label) → All (λ l. l ≢ declared d) ls → NoneIs d ls
none_is d [] a = tt
none_is d (l ∷ ls) a = (All-head (λ (m : Label). m ≢ declared d) l ls a, none_is d ls (All-tail (λ (m : Label). m ≢ declared d) l ls a))

-- A text's words have the texts of its tokens.
word_text : (text : List ℕ) (ts : List Token) (k : ℕ) → word_text_at (map (word_of_token text) ts) k ≡ leaf.token_text_or_empty text (slice_get ts k)
word_text text (t ∷ ts) (suc k) = word_text text ts k
word_text text _ _ = refl

word_number : (text : List ℕ) (ts : List Token) (k : ℕ) → integer_value_at (map (word_of_token text) ts) k ≡ leaf.token_value_or_zero (slice_get ts k)
word_number text (t ∷ ts) (suc k) = word_number text ts k
word_number text _ _ = refl

-- If words replace the uses of a constant, and the uses are factors by themselves, the tokens spell
-- a tree. It is the tree in which the factor of these words replaces the uses.
module _ (r : Resolution) (is : IsResolution r) (d : ℕ) (v : Tree Name factor) (places : List ℕ) (bound : AreBound r d places) (uses : OccurrenceSet) (agree : (j i : ℕ) → slice_get r.uses j ≡ Some i → is_in_list i places ≡ uses j)
    (alone : UsesAreFactors r.module_read d) (vs : List Word) (same : map terminal_of_word vs ≡ spell v) where
  abbrev gives : ℕ → Bool
  gives i = is_in_list i places

  others : (i : ℕ) → ordinal_in (occurrence_table r) i ≡ None → gives i ≡ false
  others i none = not_among i places (λ e. let z = among_bound r is d i places bound e in let w = z.occurs in cc)

  apart : (i : ℕ) → label_from_table r.module_read.source r.ordinals i ≢ declared d → gives i ≡ false
  apart i h = not_among i places (λ e. h (ap (λ o. label_from_ordinal naming_by_spelling o (leaf.token_text_at r.module_read.source i)) (among_bound r is d i places bound e).bound))

  uses_agree : Agrees gives uses 0 (occurrences (tree_of r.module_read))
  uses_agree = agrees_each gives uses 0 (occurrences (tree_of r.module_read)) (λ j i e.
      let zero_more : j ≡ 0 + j = omega arith in
      agree j i (ap (λ us. slice_get us j) is.occurring ∙ e) ∙ ap uses zero_more)

  none_elsewhere : NoneIs d (non_factor_occurrences (mapped_tree (label_from_table r.module_read.source r.ordinals) (leaf.token_value_at r.module_read.source) (tree_of r.module_read)))
  none_elsewhere = none_is d (non_factor_occurrences (mapped_tree (label_from_table r.module_read.source r.ordinals) (leaf.token_value_at r.module_read.source) (tree_of r.module_read))) (subst (All (λ l. l ≢ declared d)) (ap non_factor_occurrences is.numbering) alone)

  puts : (xs : List (Terminal ℕ)) → flat_map (put r.module_read.source places vs) xs ≡ flat_map (replaced gives (spell v) (leaf.token_text_at r.module_read.source) (leaf.token_value_at r.module_read.source)) xs
  puts xs =
      let s = r.module_read.source in
      λ i. flat_map (replaced gives (same i) (λ k. word_text s.text s.tokens k i) (λ k. word_number s.text s.tokens k i)) xs

  pub uses_spelled : flat_map (put r.module_read.source places vs) (spell (tree_of r.module_read)) ≡ spell (inline_in_tree uses v 0 (named_tree_of r.module_read))
  uses_spelled =
      let m = r.module_read in
      puts (spell (tree_of m))
      ∙ sym (spelled gives uses v (leaf.token_text_at m.source) (leaf.token_value_at m.source) (occurrence_table r) (label_from_table m.source r.ordinals) d others apart 0 role.DeclaringName others (tree_of m) (uses_agree, uses_reported r is, none_elsewhere))

  -- Without the declaration, the tokens also spell a tree.
  pub others_spelled : flat_map (put r.module_read.source places vs) (spell (gone_module d (tree_of r.module_read))) ≡ spell (module_without_constant d (inline_in_tree uses v 0 (named_tree_of r.module_read)))
  others_spelled =
      let m = r.module_read in
      puts (spell (gone_module d (tree_of m)))
      ∙ sym (module_spelled gives uses v (leaf.token_text_at m.source) (leaf.token_value_at m.source) (occurrence_table r) (label_from_table m.source r.ordinals) d others apart d (tree_of m) (uses_agree, uses_reported r is, none_elsewhere))

-- Tokens of occurrences ascend, so each is at least the lower bound.
pub above : (low high : ℕ) (is : List ℕ) (j i : ℕ) → AreAscendingWithin low is high → slice_get is j ≡ Some i → low ≤ i
above low high [] j i a e = absurd (cc)
above low high (x ∷ is) zero i a e = subst (λ n. low ≤ n) (some_inverse e) a.0
above low high (x ∷ is) (suc j) i a e = let more = above (x + 1) high is j i a.1 e in omega (arith, more, a.0)

pub not_equal : (i p : ℕ) → i ≢ p → (i == p) ≡ false
not_equal i p h = (elim (i == p) as (λ b. (i == p) ≡ b → b ≡ false) [ true ↦ (λ e. absurd (h (eqb-true i p e))) | false ↦ (λ e. refl) ]) refl

next_same : (j k : ℕ) → (j == k) ≡ (suc j == suc k)
next_same j k =
    (elim (j == k) as (λ b. (j == k) ≡ b → b ≡ (suc j == suc k)) [
      | true ↦ (λ e. sym (eq-eqb (suc j) (suc k) (ap suc (eqb-true j k e))))
      | false ↦ (λ e. sym (not_equal (suc j) (suc k) (λ q. let back : j ≡ k = omega (arith, q) in true≢false (sym (eq-eqb j k back) ∙ e))))
    ]) refl

pub one_place : (low high : ℕ) (is : List ℕ) (j k i p : ℕ) → AreAscendingWithin low is high → slice_get is j ≡ Some i → slice_get is k ≡ Some p → (i == p) ≡ (j == k)
one_place low high [] j k i p a e f = absurd (cc)
one_place low high (x ∷ is) zero zero i p a e f = eq-eqb i p (some_inverse (sym e ∙ f))
one_place low high (x ∷ is) zero (suc k) i p a e f =
    let here : x ≡ i = some_inverse e in
    let later = above (x + 1) high is k p a.1 f in
    let apart : i ≢ p = omega (arith, here, later) in
    not_equal i p apart ∙ sym (not_equal 0 (suc k) (omega arith))
one_place low high (x ∷ is) (suc j) zero i p a e f =
    let here : x ≡ p = some_inverse f in
    let later = above (x + 1) high is j i a.1 e in
    let apart : i ≢ p = omega (arith, here, later) in
    not_equal i p apart ∙ sym (not_equal (suc j) 0 (omega arith))
one_place low high (x ∷ is) (suc j) (suc k) i p a e f = one_place (x + 1) high is j k i p a.1 e f ∙ next_same j k
