use Rattle.std.proofs.Common.{◌-◌, length}
use Rattle.ob0_tree.specs.View.{items_of, constant_declaration_of}
use Rattle.ob0_parse_descent.proofs.Items.{Taking}
use Rattle.ob0_parse_descent.proofs.parser.Parser.parse_constant_declarations.Given as goal

abbrev pub invariant-loop-constants : goal.invariant-loop-constants
invariant-loop-constants l = Taking (items_of constant_declaration_of l.constants.items) l.room l.self.tokens.now l.at l.next

abbrev pub decreases-loop-constants : goal.decreases-loop-constants
decreases-loop-constants l = length l.self.tokens.now - l.next
