use Rattle.std.proofs.Common.{◌-◌, length}
use Rattle.ob0_tree.specs.View.{expression_of, argument_after_comma_of}
use Rattle.ob0_parse_descent.proofs.Lists.{Listing}
use Rattle.ob0_parse_descent.proofs.parser.Parser.parse_argument_list.Given as goal

abbrev pub invariant-loop-arguments : goal.invariant-loop-arguments
invariant-loop-arguments l = Listing expression_of argument_after_comma_of l.arguments.items l.room l.self.tokens.now l.at l.next

abbrev pub decreases-loop-arguments : goal.decreases-loop-arguments
decreases-loop-arguments l = length l.self.tokens.now - l.next
