pub mod KeptAnalyses
pub mod DocumentRequests
