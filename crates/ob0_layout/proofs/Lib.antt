pub mod Again
pub mod Kept
pub mod Pairs
pub mod Named
pub mod Apart
pub mod Modules
pub mod Ahead
pub mod EditSteps
pub mod InText
pub mod Gaps
pub mod Written
mod Walks
pub mod Unnamed
