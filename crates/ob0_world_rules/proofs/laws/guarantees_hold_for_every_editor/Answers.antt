use Rattle.ob0_world_rules.proofs.laws.guarantees_hold_for_every_editor.Goals as goal
use Rattle.ob0_world_rules.proofs.EveryEditor as proof

pub returns : goal.returns
returns c = proof.guarantees_hold_for_every_editor
