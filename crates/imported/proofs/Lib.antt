pub mod NamedLaws
pub mod ImportedLaws
pub mod Demands
pub mod TextProfiles
pub mod TextsAlike
