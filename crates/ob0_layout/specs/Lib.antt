pub mod Layout
pub mod Gaps
pub mod Cuts
pub mod LineRoles
