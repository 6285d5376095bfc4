-- The answers that refusals are. Assumes nothing.
pub mod Refusals
