use Rattle.ob0_types_fields.proofs.laws.agreeing_table_is_owner_table.Goals as goal
use Rattle.ob0_types_fields.proofs.OwnersByToken.{agreeing_table_is_owner_table-holds}

pub returns : goal.returns
returns c = agreeing_table_is_owner_table-holds
