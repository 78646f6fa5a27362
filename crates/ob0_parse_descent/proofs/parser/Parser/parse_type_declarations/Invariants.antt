use Rattle.std.proofs.Common.{◌-◌, length}
use Rattle.ob0_tree.specs.View.{items_of, type_declaration_of}
use Rattle.ob0_parse_descent.proofs.Items.{Taking}
use Rattle.ob0_parse_descent.proofs.parser.Parser.parse_type_declarations.Given as goal

abbrev pub invariant-loop-types : goal.invariant-loop-types
invariant-loop-types l = Taking (items_of type_declaration_of l.types.items) l.room l.self.tokens.now l.at l.next

abbrev pub decreases-loop-types : goal.decreases-loop-types
decreases-loop-types l = length l.self.tokens.now - l.next
