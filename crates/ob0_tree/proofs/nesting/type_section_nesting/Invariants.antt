use Rattle.ob0_tree.specs.View.{type_declaration_of}
use Rattle.ob0_tree.proofs.Deepest.{Deepest}
use Rattle.ob0_tree.proofs.nesting.type_section_nesting.Given as goal

abbrev pub invariant-loop-d : goal.invariant-loop-d
invariant-loop-d l = Deepest type_declaration_of l.initial.deepest l.d-items l.d-index l.deepest
