pub mod Pairs
pub mod Steps
pub mod PairLaws
