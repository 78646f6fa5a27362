pub mod RecordedSteps
