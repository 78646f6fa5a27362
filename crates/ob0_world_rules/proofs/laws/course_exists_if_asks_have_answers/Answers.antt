use Rattle.ob0_world_rules.proofs.laws.course_exists_if_asks_have_answers.Goals as goal
use Rattle.ob0_world_rules.proofs.CourseFits as proof

pub returns : goal.returns
returns c = proof.course_exists_if_asks_have_answers
