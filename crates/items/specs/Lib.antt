pub mod Readings
pub mod ReadLaws
pub mod ListLaws
