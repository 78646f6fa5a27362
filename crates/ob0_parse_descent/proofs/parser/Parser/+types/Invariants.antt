use Rattle.std.proofs.Common.{◌+◌, ◌-◌, ◌*◌, length}
use Rattle.ob0_tree.specs.View.{optional_field_group_of, field_group_after_semicolon_of}
use Rattle.ob0_parse_descent.proofs.Lists.{Listing}
use Rattle.ob0_parse_descent.proofs.parser.Parser.+types.Given as goal

abbrev pub decreases-parse_type : goal.decreases-parse_type
decreases-parse_type l = 10 * l.room + 3

abbrev pub decreases-parse_array_type : goal.decreases-parse_array_type
decreases-parse_array_type l = 10 * l.room + 2

abbrev pub decreases-parse_record_type : goal.decreases-parse_record_type
decreases-parse_record_type l = 10 * l.room + 2

abbrev pub decreases-parse_field_group_after_semicolon : goal.decreases-parse_field_group_after_semicolon
decreases-parse_field_group_after_semicolon l = 10 * l.room + 5

abbrev pub decreases-parse_optional_field_group : goal.decreases-parse_optional_field_group
decreases-parse_optional_field_group l = 10 * l.room + 4

abbrev pub invariant-parse_record_type-loop-groups : goal.invariant-parse_record_type-loop-groups
invariant-parse_record_type-loop-groups l = (Listing optional_field_group_of field_group_after_semicolon_of l.groups.items l.inner l.self.tokens.now (l.at + 1) l.next)

abbrev pub decreases-parse_record_type-loop-groups : goal.decreases-parse_record_type-loop-groups
decreases-parse_record_type-loop-groups l = length l.self.tokens.now - l.next
