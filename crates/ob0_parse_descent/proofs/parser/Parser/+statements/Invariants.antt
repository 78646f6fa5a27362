use Rattle.std.proofs.Common.{◌+◌, ◌-◌, ◌*◌, length}
use Rattle.ob0_tree.specs.View.{items_of, statement_of, statement_after_semicolon_of, elsif_of}
use Rattle.ob0_parse_descent.proofs.Items.{Taking}
use Rattle.ob0_parse_descent.proofs.Lists.{Listing}
use Rattle.ob0_parse_descent.proofs.parser.Parser.+statements.Given as goal

abbrev pub decreases-parse_sequence : goal.decreases-parse_sequence
decreases-parse_sequence l = 10 * l.room + 5

abbrev pub decreases-parse_statement_after_semicolon : goal.decreases-parse_statement_after_semicolon
decreases-parse_statement_after_semicolon l = 10 * l.room + 4

abbrev pub decreases-parse_statement : goal.decreases-parse_statement
decreases-parse_statement l = 10 * l.room + 3

abbrev pub decreases-parse_if : goal.decreases-parse_if
decreases-parse_if l = 10 * l.room + 2

abbrev pub decreases-parse_while : goal.decreases-parse_while
decreases-parse_while l = 10 * l.room + 2

abbrev pub decreases-parse_repeat : goal.decreases-parse_repeat
decreases-parse_repeat l = 10 * l.room + 2

abbrev pub decreases-parse_elsif_parts : goal.decreases-parse_elsif_parts
decreases-parse_elsif_parts l = 10 * l.room + 7

abbrev pub decreases-parse_elsif : goal.decreases-parse_elsif
decreases-parse_elsif l = 10 * l.room + 6

abbrev pub decreases-parse_else_part : goal.decreases-parse_else_part
decreases-parse_else_part l = 10 * l.room + 6

abbrev pub invariant-parse_sequence-loop-statements : goal.invariant-parse_sequence-loop-statements
invariant-parse_sequence-loop-statements l = Listing statement_of statement_after_semicolon_of l.statements.items l.room l.self.tokens.now l.at l.next

abbrev pub decreases-parse_sequence-loop-statements : goal.decreases-parse_sequence-loop-statements
decreases-parse_sequence-loop-statements l = length l.self.tokens.now - l.next

abbrev pub invariant-parse_elsif_parts-loop-elsifs : goal.invariant-parse_elsif_parts-loop-elsifs
invariant-parse_elsif_parts-loop-elsifs l = Taking (items_of elsif_of l.elsifs.items) l.room l.self.tokens.now l.at l.next

abbrev pub decreases-parse_elsif_parts-loop-elsifs : goal.decreases-parse_elsif_parts-loop-elsifs
decreases-parse_elsif_parts-loop-elsifs l = length l.self.tokens.now - l.next
