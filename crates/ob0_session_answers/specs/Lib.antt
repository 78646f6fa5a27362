pub mod Actions
pub mod Diagnostics
pub mod FormattingAnswers
pub mod RenamingAnswers
pub use Rattle.ob0_analysis.specs.ReportedErrors
pub use Rattle.ob0_analysis.specs.TextBytes
pub mod Questions
