use Rattle.ob0_world_rules.proofs.laws.answer_edits_preserve_run.Goals as goal
use Rattle.ob0_world_rules.proofs.KeptRuns as proof

pub returns : goal.returns
returns c = proof.answer_edits_preserve_run
