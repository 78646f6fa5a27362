use Rattle.ob0_world_rules.proofs.edited_text_laws.edited_text_definitions_agree.Goals as goal
use Rattle.ob0_world_rules.proofs.EditedTexts as proof

pub returns : goal.returns
returns c = proof.edited_as_patched
