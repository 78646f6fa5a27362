use Rattle.ob0_world_answers.proofs.Answering.{each_ask_answered}
use Rattle.ob0_world_answers.proofs.laws.each_ask_always_has_answer.Goals as goal

pub returns : goal.returns
returns c =
    each_ask_answered c.tree_is_unique.ensures c.formatting_always_has_answer.ensures c.renaming_always_has_answer.ensures c.inlining_here_always_has_answer.ensures c.inlining_everywhere_always_has_answer.ensures
