use Rattle.ob0_tree.specs.View.{parameter_section_after_semicolon_of}
use Rattle.ob0_layout.proofs.Walks.{Listing}
use Rattle.ob0_layout.proofs.token_line_roles.add_formal_parameter_roles.Given as goal

abbrev pub invariant-loop-s : goal.invariant-loop-s
invariant-loop-s l = Listing parameter_section_after_semicolon_of 0 l.initial.out.items l.s-items l.s-index l.first l.out.items
