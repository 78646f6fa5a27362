use Rattle.ob0_tree.specs.View.{constant_declaration_of}
use Rattle.ob0_layout.proofs.Walks.{Walking}
use Rattle.ob0_layout.proofs.token_line_roles.add_constant_section_roles.Given as goal

abbrev pub invariant-loop-c : goal.invariant-loop-c
invariant-loop-c l = Walking constant_declaration_of l.level l.initial.out.items l.c-items l.c-index l.out.items
