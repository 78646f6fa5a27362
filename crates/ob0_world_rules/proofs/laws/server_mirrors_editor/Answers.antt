use Rattle.ob0_world_rules.proofs.laws.server_mirrors_editor.Goals as goal
use Rattle.ob0_world_rules.proofs.ModelEditor as proof

pub returns : goal.returns
returns c = proof.server_mirrors_editor
