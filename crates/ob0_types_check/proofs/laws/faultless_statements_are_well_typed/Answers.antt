use Rattle.ob0_types_check.proofs.FittingStatements.{faultless_statements_are_well_typed-holds}
use Rattle.ob0_types_check.proofs.laws.faultless_statements_are_well_typed.Goals as goal

pub returns : goal.returns
returns c = faultless_statements_are_well_typed-holds
