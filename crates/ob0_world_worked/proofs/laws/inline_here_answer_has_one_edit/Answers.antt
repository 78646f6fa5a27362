use Rattle.ob0_world_worked.proofs.WorkedAnswers.{inline_here_answer_has_one_edit}
use Rattle.ob0_world_worked.proofs.laws.inline_here_answer_has_one_edit.Goals as goal

pub returns : goal.returns
returns c = inline_here_answer_has_one_edit c.constant_uses_are_factors.ensures c.inlining_keeps_typing_and_runs.ensures c.answers_are_unique.ensures
