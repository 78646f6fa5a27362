use Rattle.ob0_tree.specs.View.{type_declaration_of}
use Rattle.ob0_layout.proofs.Walks.{Walking}
use Rattle.ob0_layout.proofs.token_line_roles.add_type_section_roles.Given as goal

abbrev pub invariant-loop-d : goal.invariant-loop-d
invariant-loop-d l = Walking type_declaration_of l.level l.initial.out.items l.d-items l.d-index l.out.items
