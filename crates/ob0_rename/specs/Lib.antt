pub mod Renaming
pub mod Answers
