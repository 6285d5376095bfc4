pub mod Alike
pub mod OldAnswers
