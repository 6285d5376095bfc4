pub mod Setting
pub mod Listing
pub mod Atoms
pub mod Joins
pub mod Trial
pub mod Adding
pub mod Fitting
pub mod Walk
