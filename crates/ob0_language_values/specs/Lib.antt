pub mod Values
pub mod Scalars
pub mod Division
