use Rattle.ob0_edits_tokens.proofs.WordsOfTrees as of_trees
use Rattle.ob0_edits_tokens.proofs.laws.renamed_tree_spells_renamed_words.Goals as goal

pub returns : goal.returns
returns c = of_trees.renamed_tree_spells_renamed_words
