pub mod Lists
pub mod Diagnosing
mod Naming
