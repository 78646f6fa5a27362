use Rattle.std.proofs.Common.{◌≡◌, ◌+◌, ◌-◌, ◌*◌, length}
use Rattle.ob0_tree.specs.View.{items_of, addend_of, multiplier_of, selector_of}
use Rattle.ob0_parse_descent.proofs.Items.{Taking}
use Rattle.ob0_parse_descent.proofs.parser.Parser.+expressions.Given as goal

abbrev pub decreases-parse_expression : goal.decreases-parse_expression
decreases-parse_expression l = 14 * l.room + 13

abbrev pub decreases-parse_expression_parts : goal.decreases-parse_expression_parts
decreases-parse_expression_parts l = 14 * l.room + 12

abbrev pub decreases-parse_comparison : goal.decreases-parse_comparison
decreases-parse_comparison l = 14 * l.room + 11

abbrev pub decreases-parse_simple_expression_fast : goal.decreases-parse_simple_expression_fast
decreases-parse_simple_expression_fast l = 14 * l.room + 10

abbrev pub decreases-parse_simple_expression : goal.decreases-parse_simple_expression
decreases-parse_simple_expression l = 14 * l.room + 9

abbrev pub decreases-parse_addend : goal.decreases-parse_addend
decreases-parse_addend l = 14 * l.room + 8

abbrev pub decreases-parse_term_fast : goal.decreases-parse_term_fast
decreases-parse_term_fast l = 14 * l.room + 7

abbrev pub decreases-parse_term : goal.decreases-parse_term
decreases-parse_term l = 14 * l.room + 6

abbrev pub decreases-parse_multiplier : goal.decreases-parse_multiplier
decreases-parse_multiplier l = 14 * l.room + 5

abbrev pub decreases-parse_factor_fast : goal.decreases-parse_factor_fast
decreases-parse_factor_fast l = 14 * l.room + 4

abbrev pub decreases-parse_factor : goal.decreases-parse_factor
decreases-parse_factor l = 14 * l.room + 3

abbrev pub decreases-parse_parenthesised_factor : goal.decreases-parse_parenthesised_factor
decreases-parse_parenthesised_factor l = 14 * l.room + 2

abbrev pub decreases-parse_negation : goal.decreases-parse_negation
decreases-parse_negation l = 14 * l.room + 2

abbrev pub decreases-parse_designator : goal.decreases-parse_designator
decreases-parse_designator l = 14 * l.room + 2

abbrev pub decreases-parse_selector : goal.decreases-parse_selector
decreases-parse_selector l = 14 * l.room + 1

abbrev pub invariant-parse_designator-loop-selectors : goal.invariant-parse_designator-loop-selectors
invariant-parse_designator-loop-selectors l = Taking (items_of selector_of l.selectors.items) l.room l.self.tokens.now l.initial.next l.next

abbrev pub decreases-parse_designator-loop-selectors : goal.decreases-parse_designator-loop-selectors
decreases-parse_designator-loop-selectors l = length l.self.tokens.now - l.next

abbrev pub invariant-parse_simple_expression-loop-more : goal.invariant-parse_simple_expression-loop-more
invariant-parse_simple_expression-loop-more l = Taking (items_of addend_of l.more.items) l.room l.self.tokens.now l.initial.next l.next

abbrev pub decreases-parse_simple_expression-loop-more : goal.decreases-parse_simple_expression-loop-more
decreases-parse_simple_expression-loop-more l = length l.self.tokens.now - l.next

abbrev pub invariant-parse_term-loop-more : goal.invariant-parse_term-loop-more
invariant-parse_term-loop-more l = (Taking (items_of multiplier_of l.more.items) l.room l.self.tokens.now l.initial.next l.next) × (l.first ≡ l.initial.first)

abbrev pub decreases-parse_term-loop-more : goal.decreases-parse_term-loop-more
decreases-parse_term-loop-more l = length l.self.tokens.now - l.next
