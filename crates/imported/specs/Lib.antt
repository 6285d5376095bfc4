pub mod Named
pub mod Imported
pub mod TextProfiles
