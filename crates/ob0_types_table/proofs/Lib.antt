pub mod DeclarationTableView
pub mod FirstFields
pub mod Sighted
pub mod SameShapes
pub mod DesignatedAlone
pub mod LabelledParts
pub mod TokenNumbers
