pub mod Limits
pub mod Packing
pub mod PackingLaws
pub mod SameTable
