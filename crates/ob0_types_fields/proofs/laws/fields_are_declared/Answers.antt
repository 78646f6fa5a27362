use Rattle.ob0_types_fields.proofs.FieldsAreDeclared.{fields_are_declared-holds}
use Rattle.ob0_types_fields.proofs.laws.fields_are_declared.Goals as goal

pub returns : goal.returns
returns c = fields_are_declared-holds
