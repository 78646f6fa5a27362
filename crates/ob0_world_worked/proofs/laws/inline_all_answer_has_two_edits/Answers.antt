use Rattle.ob0_world_worked.proofs.WorkedAnswers.{inline_all_answer_has_two_edits}
use Rattle.ob0_world_worked.proofs.laws.inline_all_answer_has_two_edits.Goals as goal

pub returns : goal.returns
returns c = inline_all_answer_has_two_edits c.constant_uses_are_factors.ensures c.inlining_everywhere_keeps_typing_and_runs.ensures c.answers_are_unique.ensures
