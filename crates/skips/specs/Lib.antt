pub mod Counts
pub mod Facts
pub mod BoundRules
pub mod Ranges
pub mod Order
pub mod Blocks
pub mod BlockFacts
