-- Proves that the conflict that a refusal reports is at a token of the text.
use Rattle.std.proofs.Common.{◌≡◌, ℕ, suc, ◌<◌, Bool, true, false, if◌then◌else◌, Option, Some, None, List, ◌∷◌, length, slice_get, get_or, option_map, refl, ap, ◌∙◌, arith}
use Rattle.std.proofs.lemmas.List.{length-map}
use Rattle.std.proofs.lemmas.Option.{slice_get-get_or}
use Rattle.ob0_tree.specs.ParsedModule.{named_tree_of, tree_of}
use Rattle.ob0_tree.specs.Tree.{occurrences}
use Rattle.ob0_language_names.specs.Names.{Label}
use Rattle.ob0_language_names.specs.Occurrences.{labels_of_occurrences, first_binding_difference, same_binding}
use Rattle.ob0_scope_table.specs.Resolution.{IsResolution, Resolution, label_from_table}
use Rattle.ob0_scope_table.proofs.Bound.{bindings_by_table}

first_inside : (xs ys : List Label) (k : ℕ) → first_binding_difference xs ys ≡ Some k → k < length ys
first_inside (x ∷ xs) (y ∷ ys) k e = one (same_binding x y) (first_binding_difference xs ys) refl e (first_inside xs ys)
  where
    one : (b : Bool) (o : Option ℕ) → first_binding_difference xs ys ≡ o → (if b then option_map suc o else Some 0) ≡ Some k → ((j : ℕ) → first_binding_difference xs ys ≡ Some j → j < length ys) → k < suc (length ys)
    one true (Some j) is e later = let low = later j is in let same : suc j ≡ k = cc in omega (arith, low, same)
    one true None is e later = absurd (cc)
    one false o is e later = let same : 0 ≡ k = cc in omega (arith, same)
first_inside _ _ k e = absurd (cc)

-- An occurrence that would be bound to another declaration has a token.
pub occurrence_is_there : (r : Resolution) (bound : List Label) (k : ℕ) → IsResolution r → first_binding_difference bound (labels_of_occurrences (named_tree_of r.module_read)) ≡ Some k
    → (token : ℕ) × (slice_get (occurrences (tree_of r.module_read)) k ≡ Some token)
occurrence_is_there r bound k is e =
    let uses = occurrences (tree_of r.module_read) in
    let low = first_inside bound (labels_of_occurrences (named_tree_of r.module_read)) k e in
    let count = ap length (bindings_by_table r.module_read r.ordinals is.numbering) ∙ length-map uses (label_from_table r.module_read.source r.ordinals) in
    (get_or uses k 0, slice_get-get_or uses k 0 (omega (arith, low, count)))
