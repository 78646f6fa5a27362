pub mod Placed
pub mod Plain
