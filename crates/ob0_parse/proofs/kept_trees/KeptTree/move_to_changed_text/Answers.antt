use Rattle.ob0_parse.proofs.Carried.{front_stays, back_moves}
use Rattle.ob0_parse.proofs.kept_trees.KeptTree.move_to_changed_text.Goals as goal

pub returns-then-self-same : goal.returns-then-self-same
returns-then-self-same c = λ _ old new h p. front_stays h c.if-self-same.true p

pub returns : goal.returns
returns c = λ _ old new h p. back_moves h c.in-Some.ensures c.in-Some-index_in_changed_text.ensures p
