pub mod Scanning
pub mod Alike
mod Refusals
mod Pieces
mod GivenBack
mod OneBody
mod NoBegin
mod Ways
mod WiderRange
mod NewBody
mod LastModule
