pub mod Puts
pub mod PutsLaws
pub mod Pens
pub mod PensLaws
pub mod Decimal
pub mod DecimalLaws
