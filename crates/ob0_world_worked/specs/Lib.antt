pub mod WorkedText
pub mod WorkedAnswers
pub mod Formatting
pub mod WorkedExchange
