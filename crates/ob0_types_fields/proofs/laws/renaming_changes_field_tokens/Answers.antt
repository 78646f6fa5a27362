use Rattle.ob0_types_fields.proofs.FieldIdentifierList.{renaming_changes_field_tokens-holds}
use Rattle.ob0_types_fields.proofs.laws.renaming_changes_field_tokens.Goals as goal

pub returns : goal.returns
returns c = renaming_changes_field_tokens-holds
