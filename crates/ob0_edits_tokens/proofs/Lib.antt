pub mod Borders
pub mod TextCuts
pub mod ChangedWords
mod Joints
mod TokenPlaces
mod Splices
pub mod Names
pub mod Values
pub mod WordsOfTrees
pub mod Made
pub mod Ranged
