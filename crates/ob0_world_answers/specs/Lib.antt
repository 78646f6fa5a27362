pub mod AnswersExist
