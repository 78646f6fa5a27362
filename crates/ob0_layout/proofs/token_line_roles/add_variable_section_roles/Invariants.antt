use Rattle.ob0_tree.specs.View.{variable_declaration_of}
use Rattle.ob0_layout.proofs.Walks.{Walking}
use Rattle.ob0_layout.proofs.token_line_roles.add_variable_section_roles.Given as goal

abbrev pub invariant-loop-v : goal.invariant-loop-v
invariant-loop-v l = Walking variable_declaration_of l.level l.initial.out.items l.v-items l.v-index l.out.items
