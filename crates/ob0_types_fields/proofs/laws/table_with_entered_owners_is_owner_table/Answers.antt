use Rattle.ob0_types_fields.proofs.laws.table_with_entered_owners_is_owner_table.Goals as goal
use Rattle.ob0_types_fields.proofs.OwnersByToken.{table_with_entered_owners_is_owner_table-holds}

pub returns : goal.returns
returns c = table_with_entered_owners_is_owner_table-holds
