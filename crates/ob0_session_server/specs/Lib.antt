pub mod Answers
pub mod ClientUnits
pub mod ReplyViews
pub mod Steps
