use Rattle.ob0_tree.specs.View.{argument_after_comma_of}
use Rattle.ob0_layout.proofs.Walks.{Listing}
use Rattle.ob0_layout.proofs.token_line_roles.add_argument_roles.Given as goal

abbrev pub invariant-loop-e : goal.invariant-loop-e
invariant-loop-e l = Listing argument_after_comma_of 0 l.initial.out.items l.e-items l.e-index l.first l.out.items
