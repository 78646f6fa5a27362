use Rattle.ob0_types_check.proofs.Tables.{types_agree_with_shapes_if_table_does-holds}
use Rattle.ob0_types_check.proofs.laws.types_agree_with_shapes_if_table_does.Goals as goal

pub returns : goal.returns
returns c = types_agree_with_shapes_if_table_does-holds
