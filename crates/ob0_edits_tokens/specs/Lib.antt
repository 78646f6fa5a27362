pub mod WordReplacements
pub mod Ranges
pub mod ByteCuts
pub mod Replacements
pub mod Written
pub mod WordsOfTrees
pub mod Removals
pub mod WordTerminals
