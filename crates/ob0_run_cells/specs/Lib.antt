pub mod Cells
pub mod LoweredExpressions
pub mod LoweredStatements
pub mod Activations
pub mod LoweringLaws
