use Rattle.ob0_tree.specs.View.{statement_after_semicolon_of, elsif_of}
use Rattle.ob0_layout.proofs.Walks.{Listing, Walking}
use Rattle.ob0_layout.proofs.token_line_roles.+statements.Given as goal

abbrev pub invariant-add_sequence_roles-loop-s : goal.invariant-add_sequence_roles-loop-s
invariant-add_sequence_roles-loop-s l = Listing statement_after_semicolon_of l.level l.initial.out.items l.s-items l.s-index l.first l.out.items

abbrev pub invariant-add_elsif_roles-loop-e : goal.invariant-add_elsif_roles-loop-e
invariant-add_elsif_roles-loop-e l = Walking elsif_of l.level l.initial.out.items l.e-items l.e-index l.out.items
