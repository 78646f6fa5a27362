use Rattle.ob0_types_fields.proofs.DuplicateFields.{duplicate_field_name_has_declaring_token-holds}
use Rattle.ob0_types_fields.proofs.laws.duplicate_field_name_has_declaring_token.Goals as goal

pub returns : goal.returns
returns c = duplicate_field_name_has_declaring_token-holds
