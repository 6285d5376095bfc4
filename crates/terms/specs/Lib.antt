pub mod Letters
pub mod LetterLaws
pub mod Terms
pub mod TermLaws
