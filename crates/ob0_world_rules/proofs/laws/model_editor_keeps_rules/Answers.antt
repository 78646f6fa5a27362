use Rattle.ob0_world_rules.proofs.laws.model_editor_keeps_rules.Goals as goal
use Rattle.ob0_world_rules.proofs.ModelEditor as proof

pub returns : goal.returns
returns c = proof.model_editor_keeps_rules
