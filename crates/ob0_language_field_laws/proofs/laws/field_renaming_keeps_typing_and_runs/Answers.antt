use Rattle.ob0_language_field_laws.proofs.Proved.{field_renaming_keeps_typing_and_runs-holds}
use Rattle.ob0_language_field_laws.proofs.laws.field_renaming_keeps_typing_and_runs.Goals as goal

pub returns : goal.returns
returns c = field_renaming_keeps_typing_and_runs-holds
