use Rattle.ob0_tree.specs.View.{statement_after_semicolon_of, elsif_of}
use Rattle.ob0_tree.proofs.Deepest.{Deepest}
use Rattle.ob0_tree.proofs.nesting.+statements.Given as goal

abbrev pub invariant-sequence_nesting-loop-s : goal.invariant-sequence_nesting-loop-s
invariant-sequence_nesting-loop-s l = Deepest statement_after_semicolon_of l.initial.deepest l.s-items l.s-index l.deepest

abbrev pub invariant-elsifs_nesting-loop-e : goal.invariant-elsifs_nesting-loop-e
invariant-elsifs_nesting-loop-e l = Deepest elsif_of l.initial.deepest l.e-items l.e-index l.deepest
