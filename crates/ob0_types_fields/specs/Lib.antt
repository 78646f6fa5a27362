pub mod OwnerTables
pub mod IdentifierOwners
pub mod FieldIdentifiers
pub mod FieldVisitors
pub mod FieldWalks
pub mod FieldTypes
pub mod TypeConstructorSearch
