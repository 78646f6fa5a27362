pub mod TokenRanks
pub mod Descent
pub mod ParserPromises
pub mod ExpectedText
