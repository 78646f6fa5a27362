use Rattle.ob0_parse_descent.proofs.Leads.{stops_zero}
use Rattle.ob0_parse.proofs.TakenOver.{end_stops}
use Rattle.ob0_parse.proofs.kept_trees.KeptTree.is_reusable_at.Goals as goal

pub returns-in-Procedure-clause-ends : goal.returns-in-Procedure-clause-ends
returns-in-Procedure-clause-ends c = λ _. rw c.in-Procedure.is (stops_zero _)

pub returns-in-Body-clause-ends : goal.returns-in-Body-clause-ends
returns-in-Body-clause-ends c = rw c.in-Body.is (end_stops _ _ _ c.has_reserved_word_at.ensures)
