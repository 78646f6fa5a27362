mod Kept
mod OtherDocuments
