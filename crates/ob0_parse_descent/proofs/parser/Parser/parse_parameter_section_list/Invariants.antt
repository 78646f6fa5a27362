use Rattle.std.proofs.Common.{◌-◌, length}
use Rattle.ob0_tree.specs.View.{parameter_section_of, parameter_section_after_semicolon_of}
use Rattle.ob0_parse_descent.proofs.Lists.{Listing}
use Rattle.ob0_parse_descent.proofs.parser.Parser.parse_parameter_section_list.Given as goal

abbrev pub invariant-loop-sections : goal.invariant-loop-sections
invariant-loop-sections l = Listing parameter_section_of parameter_section_after_semicolon_of l.sections.items l.room l.self.tokens.now l.at l.next

abbrev pub decreases-loop-sections : goal.decreases-loop-sections
decreases-loop-sections l = length l.self.tokens.now - l.next
