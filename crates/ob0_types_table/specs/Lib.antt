pub mod FirstFieldMaps
pub mod FieldPlaces
pub mod DeclarationTableView
pub mod DeclarationTables
pub mod TypeWithParts
pub mod Operators
pub mod Designators
