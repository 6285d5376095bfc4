pub mod Hunt
pub mod HuntLaws
