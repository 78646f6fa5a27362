-- Proves which kept trees match the tokens of a changed text, and in which ranges.
use Rattle.std.proofs.Common.{◌≡◌, ℕ, ◌+◌, ◌-◌, ◌<◌, ◌≤◌, Bool, true, false, cond, All, List, [], ◌∷◌, take, drop, length, refl, sym, ◌∙◌, ap, subst, arith, slice_range, length-drop}
use Rattle.std.specs.List.Retain.{RetainsInTurn}
use Rattle.std.proofs.lemmas.List.{drop-drop, drop-take, length-map, take-take}
use Rattle.std.proofs.lemmas.List.Elements.{All-nil, All-cons, All-head, All-tail, All-weaker}
use Rattle.ob0_scan.specs.declared.lexeme.Token.{Token}
use Rattle.ob0_scan.specs.declared.tokens.CommonPrefixAndSuffix.{CommonPrefixAndSuffix}
use Rattle.ob0_scan.specs.ReusedLexemes.{kind_without_value, token_kinds_without_values}
use Rattle.ob0_tree.specs.Tree.{Sort, Tree}
use Rattle.ob0_scan.specs.SamePrefixAndSuffix.{PrefixAndSuffixHaveSameKinds}
use Rattle.ob0_parse.specs.KeptTreeTokens.{indexed_terminals_of_kinds, ShiftedTreeMatchesTokens, KeptTreeMatchesTokens, KeptTreesMatchTokens}
use Rattle.ob0_parse.specs.declared.kept_trees.KeptTree.{KeptTree}
use Rattle.ob0_parse.specs.declared.kept_trees.KeptTrees.{KeptTrees}

-- A part of a list up to `front` is a part of the list's first items.
within_front : {A : Type 0} (xs : List A) (at next front : ℕ) → at ≤ next → next ≤ front → slice_range xs at next ≡ drop at (take next (take front xs))
within_front xs at next front h inside =
    let there : at + (next - at) ≡ next = omega (arith, h) in
    sym (drop-take at (next - at) xs) ∙ ap (λ n. drop at (take n xs)) there ∙ ap (drop at) (sym (take-take next front xs inside))

-- If other tokens have the same kinds as a tree's tokens, the tree is at those tokens as well.
there_again : {s : Sort} (old new : List Token) (from at next here end : ℕ) (t : Tree ℕ s) → ShiftedTreeMatchesTokens old from at next t → slice_range (token_kinds_without_values old) at next ≡ slice_range (token_kinds_without_values new) here end → here < end → end ≤ length new → ShiftedTreeMatchesTokens new from here end t
there_again old new from at next here end t p same forward within = record {
  spelled = p.spelled ∙ ap (λ ks. indexed_terminals_of_kinds from ks) same;
  shallow = p.shallow;
  forward = forward;
  within = within;
}

pub front_stays : {s : Sort} {old new : List Token} {same : CommonPrefixAndSuffix} {from at next : ℕ} {t : Tree ℕ s} → PrefixAndSuffixHaveSameKinds same old new → next ≤ same.prefix → ShiftedTreeMatchesTokens old from at next t → ShiftedTreeMatchesTokens new from at next t
front_stays {old = old} {new = new} {same = same} {from = from} {at = at} {next = next} {t = t} h inside p =
    let order : at ≤ next = omega (arith, p.forward) in
    let alike : slice_range (token_kinds_without_values old) at next ≡ slice_range (token_kinds_without_values new) at next =
    within_front (token_kinds_without_values old) at next same.prefix order inside ∙ ap (λ ks. drop at (take next ks)) (sym h.front) ∙ sym (within_front (token_kinds_without_values new) at next same.prefix order inside) in
    there_again old new from at next at next t p alike p.forward (omega (arith, inside, h.new_range, h.new_inside))

count_kinds : (ts : List Token) (i : ℕ) → length (drop i (token_kinds_without_values ts)) ≡ length ts - i
count_kinds ts i = length-drop i (token_kinds_without_values ts) ∙ ap (λ n. n - i) (length-map ts (λ (t : Token). kind_without_value t.kind))

pub back_moves : {s : Sort} {old new : List Token} {same : CommonPrefixAndSuffix} {from at next here end : ℕ} {t : Tree ℕ s} → PrefixAndSuffixHaveSameKinds same old new
    → (same.old_suffix ≤ at) × (here + same.old_suffix ≡ at + same.new_suffix) → (same.old_suffix ≤ next) × (end + same.old_suffix ≡ next + same.new_suffix)
    → ShiftedTreeMatchesTokens old from at next t → ShiftedTreeMatchesTokens new from here end t
back_moves {old = old} {new = new} {same = same} {from = from} {at = at} {next = next} {here = here} {end = end} {t = t} h first last p =
    let i : ℕ = at - same.old_suffix in
    let old_place : same.old_suffix + i ≡ at = omega (arith, first.0) in
    let new_place : same.new_suffix + i ≡ here = omega (arith, first.0, first.1) in
    let count : next - at ≡ end - here = omega (arith, first.0, first.1, last.0, last.1, p.forward) in
    let both : length old - same.old_suffix ≡ length new - same.new_suffix = sym (count_kinds old same.old_suffix) ∙ ap (λ ks. length ks) (sym h.back) ∙ count_kinds new same.new_suffix in
    let dropped : drop at (token_kinds_without_values old) ≡ drop here (token_kinds_without_values new) =
    ap (λ n. drop n (token_kinds_without_values old)) (sym old_place) ∙ sym (drop-drop i same.old_suffix (token_kinds_without_values old)) ∙ ap (drop i) (sym h.back) ∙ drop-drop i same.new_suffix (token_kinds_without_values new) ∙ ap (λ n. drop n (token_kinds_without_values new)) new_place in
    there_again old new from at next here end t p (ap (λ n. take n (drop at (token_kinds_without_values old))) count ∙ ap (take (end - here)) dropped)
    (omega (arith, first.0, first.1, last.0, last.1, p.forward)) (omega (arith, both, last.0, last.1, p.within, h.new_inside, h.old_inside))

-- If all tokens have the same kinds as before, the kept trees are in place.
pub kept_stay : (old new : List Token) (k : KeptTrees) → token_kinds_without_values new ≡ token_kinds_without_values old → KeptTreesMatchTokens old k → KeptTreesMatchTokens new k
kept_stay old new k same kept =
    let all : PrefixAndSuffixHaveSameKinds (record { prefix = 0; old_suffix = 0; new_suffix = 0 }) old new = record { old_range = omega arith; new_range = omega arith; old_inside = omega arith; new_inside = omega arith; front = refl; back = same } in
    record { trees = All-weaker (KeptTreeMatchesTokens old) (KeptTreeMatchesTokens new) (λ t p. back_moves all (omega arith, refl) (omega arith, refl) p) k.trees.items kept.trees }

kept_if : (P : KeptTree → Type 0) (x : KeptTree) (xs : List KeptTree) (there : Bool) → (there ≡ true → P x) → All P xs → All P (cond there (x ∷ xs) xs)
kept_if P x xs true h others = All-cons P x xs (h refl) others
kept_if P x xs false h others = others

-- If a test that changes the items is true only of items that then have the property Q, the items
-- that remain have this property.
pub retained : {S : Type 0} (R : S → KeptTree → Bool → S → KeptTree → Type 0) (P Q : KeptTree → Type 0) (s : S) (xs ys : List KeptTree) → RetainsInTurn R s xs ys
    → ((x : KeptTree) (there : Bool) (t : S) (y : KeptTree) → R s x there t y → (there ≡ true → P x → Q y) × (t ≡ s)) → All P xs → All Q ys
retained R P Q s [] ys h f p = subst (All Q) (sym h) (All-nil Q)
retained R P Q s (x ∷ xs) ys h f p =
    let step = f x h.0 h.1 h.2 h.3 in
    let others = retained R P Q s xs h.4 (subst (λ t. RetainsInTurn R t xs h.4) step.1 h.5) f (All-tail P x xs p) in
    subst (All Q) (sym h.6) (kept_if Q h.2 h.4 h.0 (λ there. step.0 there (All-head P x xs p)) others)
