pub mod NamedTable
pub mod TextLaws
pub mod Longest
pub mod LongestLaws
