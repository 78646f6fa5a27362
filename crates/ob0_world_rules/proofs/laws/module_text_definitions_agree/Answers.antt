use Rattle.ob0_world_rules.proofs.laws.module_text_definitions_agree.Goals as goal
use Rattle.ob0_world_rules.proofs.ModuleTexts as proof

pub returns : goal.returns
returns c = proof.module_text_definitions_agree
