pub mod Prints
pub mod PrintsLaws
pub mod PrintsExamples
