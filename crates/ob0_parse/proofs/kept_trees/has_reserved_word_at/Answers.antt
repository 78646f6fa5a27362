use Rattle.ob0_parse.proofs.TakenOver.{token_is}
use Rattle.ob0_parse.proofs.kept_trees.has_reserved_word_at.Goals as goal

pub returns : goal.returns
returns c = rw c.is_ok.ensures.value (token_is _ _ _ _ c.expect_reserved_word.ensures)
