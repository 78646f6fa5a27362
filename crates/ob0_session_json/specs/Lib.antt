pub mod JsonViews
pub mod LocationBuffer
pub mod JsonShapes
