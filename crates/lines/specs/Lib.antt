pub mod Printed
pub mod PrintedLaws
pub mod Shown
pub mod PrintedExamples
