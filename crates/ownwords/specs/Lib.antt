pub mod OwnWords
pub mod OwnWordLaws
