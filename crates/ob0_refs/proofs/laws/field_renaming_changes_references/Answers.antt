use Rattle.ob0_refs.proofs.AtFields.{field_renaming_changes_references-holds}
use Rattle.ob0_refs.proofs.laws.field_renaming_changes_references.Goals as goal

pub returns : goal.returns
returns c = field_renaming_changes_references-holds
