pub mod Chains
pub mod Exits
pub mod TruthList
pub mod InOrder
pub mod Viewed
pub mod Executing
pub mod Returning
pub mod Sums
