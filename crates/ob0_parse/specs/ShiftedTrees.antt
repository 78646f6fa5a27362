-- Defines how the leaves of a tree are adapted to a changed text. The leaves are token indexes, so
-- they are shifted if tokens were added or removed before them.
-- Rule: none; used in private contracts of the parser.
use Rattle.std.specs.Prelude.{ℕ, ◌+◌, ◌-◌, ◌^◌, min}
use Rattle.ob0_tree.specs.Tree.{Sort, Tree, mapped_tree}
use Rattle.ob0_parse.specs.declared.leaf_shifts.TokenIndexShift.{TokenIndexShift}

-- Returns the token index `i` shifted by the distance from `by.from` to `by.to`, capped at
-- 2^64 - 1. An index below `by.from` counts as `by.from`.
abbrev pub shifted_leaf : TokenIndexShift → ℕ → ℕ
shifted_leaf by i = min (i - by.from + by.to) (2 ^ 64 - 1)

-- Returns the tree with each leaf, a token index, shifted by the distance from `by.from` to `by.to`
-- (`shifted_leaf`).
abbrev pub tree_with_shifted_leaves : {s : Sort} → TokenIndexShift → Tree ℕ s → Tree ℕ s
tree_with_shifted_leaves by t = mapped_tree (shifted_leaf by) (shifted_leaf by) t
