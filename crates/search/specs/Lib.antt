pub mod Ends
pub mod Searching
