use Rattle.ob0_world_worked.proofs.WorkedAnswers.{rename_answer_has_three_edits}
use Rattle.ob0_world_worked.proofs.laws.rename_answer_has_three_edits.Goals as goal

pub returns : goal.returns
returns c = rename_answer_has_three_edits c.renaming_to_free_name_keeps_typing_and_runs.ensures c.answers_are_unique.ensures
