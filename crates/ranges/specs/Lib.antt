pub mod Packs
pub mod RangeLaws
