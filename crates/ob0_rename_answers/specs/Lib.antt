pub mod RenameAnswers
