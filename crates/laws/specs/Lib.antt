pub mod Negations
pub mod Wider
pub mod NothingFits
pub mod LargerBudget
pub mod NeverNone
pub mod ProfileAnswers
pub mod Renumbering
pub mod Exchange
