use Rattle.ob0_refs.proofs.AtFields.{fields_have_definitions-holds}
use Rattle.ob0_refs.proofs.laws.fields_have_definitions.Goals as goal

pub returns : goal.returns
returns c = fields_have_definitions-holds
