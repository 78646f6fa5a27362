pub mod Values
pub mod EditedModuleTexts
pub mod Declarations
pub mod Uses
pub mod Everywhere
