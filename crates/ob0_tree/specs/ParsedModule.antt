-- Defines a parsed module: a text and a syntax tree, as the code represents them. Also states when
-- the tree is the right one for the text (`TreeMatchesText`).
-- Rule: none; used in contracts about parsed modules.
use Rattle.std.specs.Prelude.{◌≡◌, ℕ, List, [], ◌∷◌, ◌++◌}
use Rattle.ob0_scan.specs.TextWithTokens.{TextWithTokens}
use Rattle.ob0_tree.specs.declared.tree.Block.{Block}
use Rattle.ob0_tree.specs.declared.tree.ModuleTree.{ModuleTree}
use Rattle.ob0_tree.specs.Terminals.{EndOfText}
use Rattle.ob0_tree.specs.Tree.{Tree, module_text, forms_module, spell}
use Rattle.ob0_tree.specs.View.{block_of}
use Rattle.ob0_tree.specs.Module.{IsModuleWithTree}
use Rattle.ob0_tree.specs.TokenIndexLeaves.{indexed_terminals, tree_with_names}

-- A parsed module: its text with the tokens and comments (`source`), its name, its block and its
-- closing name. A name is given by the index of its token.
pub record ParsedModule : Type 0 where
  pub source : TextWithTokens
  pub name : ℕ
  pub block : Block
  pub closing : ℕ

-- Returns the parsed module with the text `s` and the tree `t`.
abbrev pub parsed_module : TextWithTokens → ModuleTree → ParsedModule
parsed_module s t = record { source = s; name = t.name; block = t.block; closing = t.closing }

-- Returns the module's `Tree`, in which each identifier and integer is the index of its token.
abbrev pub tree_of : ParsedModule → Tree ℕ module_text
tree_of m = forms_module m.name (block_of m.block) m.closing

-- Returns the module's `Tree`, with the text of each name and the value of each integer.
abbrev pub named_tree_of : ParsedModule → Tree (List ℕ) module_text
named_tree_of m = tree_with_names m.source (tree_of m)

-- States that the text of `m` is a module and that `named_tree_of m` is its tree. Also states that
-- each identifier and integer in `tree_of m` is the index of its token.
pub record TreeMatchesText (m : ParsedModule) : Type 0 where
  pub module_of : IsModuleWithTree m.source (named_tree_of m)
  pub places : spell (tree_of m) ++ (EndOfText ∷ []) ≡ indexed_terminals m.source.tokens
