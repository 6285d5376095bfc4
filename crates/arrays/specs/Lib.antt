pub mod Unpacked
pub mod UnpackLaws
