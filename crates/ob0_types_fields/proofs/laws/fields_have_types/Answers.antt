use Rattle.ob0_types_fields.proofs.TypedFields.{fields_have_types-holds}
use Rattle.ob0_types_fields.proofs.laws.fields_have_types.Goals as goal

pub returns : goal.returns
returns c = fields_have_types-holds
