mod Latest
pub mod ModuleTexts
pub mod Trees
pub mod KeptRuns
mod LineEnds
mod LineEndEdits
pub mod SameTokens
pub mod OneModule
pub mod OneLayout
pub mod OneInlining
pub mod OneFields
pub mod OneRenaming
mod AnswerIsDetermined
pub mod CourseIsDetermined
mod CourseFits
mod Keeping
pub mod Interleavings
pub mod UriLaws
pub mod Asked
pub mod SameDocument
pub mod PerformsAct
pub mod EditedTexts
pub mod EveryEditor
pub mod ModelEditor
mod Pending
