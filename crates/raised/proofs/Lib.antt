pub mod AlikeLaws
pub mod BookAlike
pub mod OldPrints
pub mod OldBooks
pub mod OldTexts
