use Rattle.ob0_world_rules.proofs.laws.state_after_event_is_determined.Goals as goal
use Rattle.ob0_world_rules.proofs.CourseIsDetermined as proof

pub returns : goal.returns
returns c = proof.state_after_event_is_determined
