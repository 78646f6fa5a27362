use Rattle.ob0_tree.specs.View.{constant_declaration_of}
use Rattle.ob0_tree.proofs.Deepest.{Deepest}
use Rattle.ob0_tree.proofs.nesting.constant_section_nesting.Given as goal

abbrev pub invariant-loop-c : goal.invariant-loop-c
invariant-loop-c l = Deepest constant_declaration_of l.initial.deepest l.c-items l.c-index l.deepest
