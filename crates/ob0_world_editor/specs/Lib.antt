pub mod ModelValues
pub mod Shapes
pub mod MessagesToServer
pub mod MessagesToEditor
pub mod StoredDocuments
pub mod EditorCalls
pub mod InitializeRequest
