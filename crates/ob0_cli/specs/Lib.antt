pub mod RequestedCommands
pub mod ClapCommands
