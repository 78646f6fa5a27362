mod Inlined
mod LaidOut
pub mod Renamings
