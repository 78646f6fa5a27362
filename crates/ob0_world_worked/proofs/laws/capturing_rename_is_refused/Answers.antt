use Rattle.ob0_world_worked.proofs.WorkedAnswers.{capturing_rename_is_refused}
use Rattle.ob0_world_worked.proofs.laws.capturing_rename_is_refused.Goals as goal

pub returns : goal.returns
returns c = capturing_rename_is_refused c.answers_are_unique.ensures
