pub mod MarkedFields
pub mod RenamedFields
pub mod SingleFieldRenaming
