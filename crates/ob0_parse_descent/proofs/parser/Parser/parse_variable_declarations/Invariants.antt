use Rattle.std.proofs.Common.{◌-◌, length}
use Rattle.ob0_tree.specs.View.{items_of, variable_declaration_of}
use Rattle.ob0_parse_descent.proofs.Items.{Taking}
use Rattle.ob0_parse_descent.proofs.parser.Parser.parse_variable_declarations.Given as goal

abbrev pub invariant-loop-variables : goal.invariant-loop-variables
invariant-loop-variables l = Taking (items_of variable_declaration_of l.variables.items) l.room l.self.tokens.now l.at l.next

abbrev pub decreases-loop-variables : goal.decreases-loop-variables
decreases-loop-variables l = length l.self.tokens.now - l.next
