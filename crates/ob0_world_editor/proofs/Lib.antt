mod EntryLaws
mod Lists
mod ReadEdits
mod Shallow
pub mod Hearing
pub mod Moving
