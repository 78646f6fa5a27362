use Rattle.ob0_tree.specs.View.{selector_of}
use Rattle.ob0_layout.proofs.Walks.{Walking}
use Rattle.ob0_layout.proofs.token_line_roles.add_assignment_roles.Given as goal

abbrev pub invariant-loop-s : goal.invariant-loop-s
invariant-loop-s l = Walking selector_of 0 l.initial.out.items l.s-items l.s-index l.out.items
