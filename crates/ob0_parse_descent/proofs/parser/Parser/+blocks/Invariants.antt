use Rattle.std.proofs.Common.{◌+◌, ◌-◌, ◌*◌, length}
use Rattle.ob0_tree.specs.View.{items_of, procedure_of}
use Rattle.ob0_parse_descent.proofs.Items.{Taking}
use Rattle.ob0_parse_descent.proofs.parser.Parser.+blocks.Given as goal

abbrev pub decreases-parse_block : goal.decreases-parse_block
decreases-parse_block l = 10 * l.room + 2

abbrev pub decreases-parse_procedures : goal.decreases-parse_procedures
decreases-parse_procedures l = 10 * l.room + 1

abbrev pub decreases-parse_procedure : goal.decreases-parse_procedure
decreases-parse_procedure l = 10 * l.room

abbrev pub invariant-parse_procedures-loop-procedures : goal.invariant-parse_procedures-loop-procedures
invariant-parse_procedures-loop-procedures l = Taking (items_of procedure_of l.procedures.items) l.room l.self.tokens.now l.at l.next

abbrev pub decreases-parse_procedures-loop-procedures : goal.decreases-parse_procedures-loop-procedures
decreases-parse_procedures-loop-procedures l = length l.self.tokens.now - l.next
