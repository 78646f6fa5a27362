use Rattle.ob0_language_field_laws.proofs.FieldRenamedModules.{field_renaming_keeps_type_check-holds}
use Rattle.ob0_language_field_laws.proofs.laws.field_renaming_keeps_type_check.Goals as goal

pub returns : goal.returns
returns c = field_renaming_keeps_type_check-holds
