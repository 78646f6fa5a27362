use Rattle.std.proofs.Common.{All, vec_len}
use Rattle.ob0_parse.specs.KeptTreeTokens.{KeptTreeMatchesTokens}
use Rattle.ob0_parse.proofs.kept_trees.take_tree_at.Given as goal

abbrev pub invariant-loop-tree : goal.invariant-loop-tree
invariant-loop-tree l = All (KeptTreeMatchesTokens l.parser.tokens.now) l.kept.items

abbrev pub decreases-loop-tree : goal.decreases-loop-tree
decreases-loop-tree l = vec_len l.kept
