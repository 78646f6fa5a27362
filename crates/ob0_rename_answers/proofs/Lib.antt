mod NewNameEdits
pub mod RenameAnswers
