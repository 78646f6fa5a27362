use Rattle.ob0_tree.specs.View.{statement_after_semicolon_of, elsif_of}
use Rattle.ob0_tree.proofs.Firsts.{Seeking}
use Rattle.ob0_tree.proofs.first_identifiers.+statements.Given as goal

abbrev pub invariant-first_identifier_in_sequence-loop-s : goal.invariant-first_identifier_in_sequence-loop-s
invariant-first_identifier_in_sequence-loop-s l = Seeking statement_after_semicolon_of l.s-items l.s-index

abbrev pub invariant-first_identifier_in_elsifs-loop-e : goal.invariant-first_identifier_in_elsifs-loop-e
invariant-first_identifier_in_elsifs-loop-e l = Seeking elsif_of l.e-items l.e-index
