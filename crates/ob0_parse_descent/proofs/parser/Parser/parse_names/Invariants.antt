use Rattle.std.proofs.Common.{◌-◌, length}
use Rattle.ob0_tree.specs.Tree.{comma_then_name}
use Rattle.ob0_tree.specs.View.{items_of}
use Rattle.ob0_parse_descent.proofs.Items.{Taking}
use Rattle.ob0_parse_descent.proofs.parser.Parser.parse_names.Given as goal

abbrev pub invariant-loop-more : goal.invariant-loop-more
invariant-loop-more l = Taking (items_of comma_then_name l.more.items) 0 l.self.tokens.now l.initial.next l.next

abbrev pub decreases-loop-more : goal.decreases-loop-more
decreases-loop-more l = length l.self.tokens.now - l.next
