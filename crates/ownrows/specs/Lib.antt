pub mod Encoded
pub mod OwnRowLaws
