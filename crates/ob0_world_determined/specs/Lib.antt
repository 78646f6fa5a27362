pub mod DeterminedOutput
pub mod ServeGuarantees
