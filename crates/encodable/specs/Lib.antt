pub mod EncodableLaws
pub mod CountingLaws
