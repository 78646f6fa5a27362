pub mod Named
pub mod Needed
pub mod Numbers
pub mod Rows
pub mod Stops
pub mod Walked
