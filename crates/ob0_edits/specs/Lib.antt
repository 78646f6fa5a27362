pub mod InliningEdits
pub mod FormattingEdits
pub mod Renamings
pub use Rattle.ob0_analysis.specs.AnalysisAnswers
pub use Rattle.ob0_analysis.specs.ReportedErrors
pub use Rattle.ob0_analysis.specs.SameRuns
pub use Rattle.ob0_analysis.specs.TextBytes
