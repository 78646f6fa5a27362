pub mod ModelValues
pub mod Queues
pub mod EventReport
pub mod Versions
pub mod Worlds
pub mod Exchanges
