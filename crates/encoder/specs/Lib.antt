pub mod Writable
pub mod EncodeLaws
