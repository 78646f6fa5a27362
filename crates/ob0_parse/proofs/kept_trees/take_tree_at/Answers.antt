use Rattle.std.proofs.Common.{Some}
use Rattle.std.proofs.lemmas.List.Elements.{All-pop}
use Rattle.ob0_parse.specs.KeptTreeTokens.{KeptTreeMatchesTokens}
use Rattle.ob0_parse.proofs.kept_trees.take_tree_at.Goals as goal

pub is_reusable_at-requires : goal.is_reusable_at-requires
is_reusable_at-requires c = (All-pop (KeptTreeMatchesTokens c.args.parser.now.tokens.now) _ _ (Some c.in-Some.tree) c.in-Some.ensures.items c.loop-tree.invariant).1.within
