pub mod MarkedNames
pub mod KnownFields
pub mod MeaningsByName
pub mod WorkedFields
