-- Proves that the number of words ARRAY and RECORD in a tree doesn't depend on the representation
-- of its names.
use Rattle.std.proofs.Common.{◌≡◌, ℕ, map, List, [], ◌∷◌, refl, ap}
use Rattle.ob0_tree.specs.Tree.{comma_then_name}
use Rattle.ob0_tree.specs.View.{items_of, names_of}
use Rattle.ob0_tree.specs.declared.tree.IdentifierList as tree_names
use Rattle.ob0_language_names.specs.BlockParts.{names_after_first, names_in_list}
use Rattle.ob0_scope_table.specs.Resolution.{Resolution}
use Rattle.ob0_scope_table.specs.LabelledTrees.{tree_with_labels, label_at_token}

-- The names of a list with labels are the labels of its names.
further_labels : (r : Resolution) (xs : List ℕ) → names_after_first (tree_with_labels r (items_of comma_then_name xs)) ≡ map (label_at_token r) xs
further_labels r [] = refl
further_labels r (x ∷ xs) = ap (λ ys. label_at_token r x ∷ ys) (further_labels r xs)

pub labels_listed : (r : Resolution) (ns : tree_names.IdentifierList) → names_in_list (tree_with_labels r (names_of ns)) ≡ map (label_at_token r) (ns.first ∷ ns.more.items)
labels_listed r ns = ap (λ ys. label_at_token r ns.first ∷ ys) (further_labels r ns.more.items)
