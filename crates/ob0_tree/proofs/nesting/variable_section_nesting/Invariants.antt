use Rattle.ob0_tree.specs.View.{variable_declaration_of}
use Rattle.ob0_tree.proofs.Deepest.{Deepest}
use Rattle.ob0_tree.proofs.nesting.variable_section_nesting.Given as goal

abbrev pub invariant-loop-v : goal.invariant-loop-v
invariant-loop-v l = Deepest variable_declaration_of l.initial.deepest l.v-items l.v-index l.deepest
