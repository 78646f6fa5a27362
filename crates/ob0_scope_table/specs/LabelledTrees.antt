-- Defines trees that have a label in place of each identifier's token. A label is the ordinal (the
-- number) of a name's declaration, or the spelling of an identifier without an ordinal.
-- Rule: none; used in contracts about trees with labels.
use Rattle.std.specs.Prelude.{ℕ}
use Rattle.ob0_tree.specs.Tree.{Sort, Tree, mapped_tree}
use Rattle.ob0_tree.specs.TokenIndexLeaves.{token_value_at}
use Rattle.ob0_language_names.specs.Names.{Label}
use Rattle.ob0_scope_table.specs.Resolution.{Resolution, label_from_table}

-- returns the label of the identifier at a token: the ordinal of its declaration, or its spelling
-- if it has no ordinal
abbrev pub label_at_token : Resolution → ℕ → Label
label_at_token r token = label_from_table r.module_read.source r.ordinals token

-- Returns a tree with the label of each identifier, and the value of each integer, in place of its
-- token.
abbrev pub tree_with_labels : {s : Sort} → Resolution → Tree ℕ s → Tree Label s
tree_with_labels r t = mapped_tree (label_at_token r) (token_value_at r.module_read.source) t
