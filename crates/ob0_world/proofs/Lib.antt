mod Answering
mod Waiting
mod Moved
mod Serving
mod Counting
mod Courses
mod Tied
mod Stepping
pub mod Conversing
mod Versions
mod Ending
mod Exchanges
mod Exchanged
mod Places
