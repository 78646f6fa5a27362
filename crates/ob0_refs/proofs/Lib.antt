pub mod AtFields
pub mod Counted
pub mod HoverParameters
pub mod ParametersFollowProcedureName
