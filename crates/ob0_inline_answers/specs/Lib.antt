pub mod InlineAnswers
