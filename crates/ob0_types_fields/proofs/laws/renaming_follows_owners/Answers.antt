use Rattle.ob0_types_fields.proofs.ByToken.{renaming_follows_owners-holds}
use Rattle.ob0_types_fields.proofs.laws.renaming_follows_owners.Goals as goal

pub returns : goal.returns
returns c = renaming_follows_owners-holds
