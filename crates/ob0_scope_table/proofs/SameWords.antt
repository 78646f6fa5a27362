-- Proves that two texts have the same spellings and values at each token if their tokens have the
-- same kinds and spellings. So a tree has the same names and numbers over both texts.
use Rattle.std.proofs.Common.{◌≡◌, List, length, slice_get, sym, ap, ◌∙◌}
use Rattle.std.proofs.lemmas.List.{length-map}
use Rattle.ob0_scan.specs.ReusedLexemes.{words_of_tokens}
use Rattle.ob0_scan.specs.TextWithTokens.{TextWithTokens, Word, word_of_token}
use Rattle.ob0_tree.specs.declared.tree.ModuleTree.{ModuleTree}
use Rattle.ob0_tree.specs.ParsedModule.{named_tree_of, parsed_module, tree_of}
use Rattle.ob0_tree.specs.TokenIndexLeaves.{token_text_at, token_value_at}
use Rattle.ob0_tree.specs.Tree.{mapped_tree}
use Rattle.ob0_scope_table.proofs.BodyReplacement.{text_by_word, value_by_word}

module _ (old new : TextWithTokens) (same : words_of_tokens new.text new.tokens ≡ words_of_tokens old.text old.tokens) where
  pub same_count : length new.tokens ≡ length old.tokens
  same_count = sym (length-map new.tokens (word_of_token new.text)) ∙ (ap length same ∙ length-map old.tokens (word_of_token old.text))

  pub same_texts : token_text_at new ≡ token_text_at old
  same_texts = λ j i. text_by_word old new i i (ap (λ (l : List Word). slice_get l i) same) j

  pub same_values : token_value_at new ≡ token_value_at old
  same_values = λ j i. value_by_word old new i i (ap (λ (l : List Word). slice_get l i) same) j

  pub same_named_tree : (tree : ModuleTree) → named_tree_of (parsed_module new tree) ≡ named_tree_of (parsed_module old tree)
  same_named_tree tree = λ j. mapped_tree (same_texts j) (same_values j) (tree_of (parsed_module old tree))
