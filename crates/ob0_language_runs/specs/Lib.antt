pub mod Runs
pub mod FreedVariables
pub mod TypeAgreement
pub mod Laws
pub mod EditLaws
