-- Expressions and statements fit if no fault is reported for them. The proofs about declarations
-- use these laws.
use Rattle.ob0_language_names.specs.Names.{Name}
use Rattle.ob0_types_check.specs.ReportLaws.{FaultlessConstantsHaveCorrectValues, FaultlessLengthsHaveCorrectValues, FaultlessStatementsAreWellTyped, TypesAgreeWithShapesIfTableDoes}
use Rattle.ob0_types_check.proofs.FittingStatements.{faultless_statements_are_well_typed-holds}
use Rattle.ob0_types_check.proofs.Proved.{faultless_constants_have_correct_values-holds, faultless_lengths_have_correct_values-holds}
use Rattle.ob0_types_check.proofs.Tables.{types_agree_with_shapes_if_table_does-holds}

pub record PartsFit : Type 0 where
  pub tables : TypesAgreeWithShapesIfTableDoes
  pub constants : FaultlessConstantsHaveCorrectValues Name
  pub lengths : FaultlessLengthsHaveCorrectValues Name
  pub statements : FaultlessStatementsAreWellTyped Name

pub parts_fit : PartsFit
parts_fit = record { tables = types_agree_with_shapes_if_table_does-holds; constants = faultless_constants_have_correct_values-holds; lengths = faultless_lengths_have_correct_values-holds; statements = faultless_statements_are_well_typed-holds }
