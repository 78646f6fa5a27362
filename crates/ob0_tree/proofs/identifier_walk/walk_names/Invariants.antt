use Rattle.ob0_tree.specs.Tree.{comma_then_name}
use Rattle.ob0_tree.proofs.Visits.{Visiting}
use Rattle.ob0_tree.proofs.identifier_walk.walk_names.Given as goal

abbrev pub invariant-loop-name : goal.invariant-loop-name
invariant-loop-name g l = Visiting g.V.Visitor.state_after_one_identifier comma_then_name l.role l.initial.visitor l.name-items l.name-index l.visitor
