pub mod Known
pub mod KnownLaws
pub mod OperatorLaws
