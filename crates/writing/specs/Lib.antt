pub mod Writing
pub mod Matching
pub mod WritingLaws
pub mod TermLaws
pub mod CountLaws
pub mod Examples
