pub mod Sweep
pub mod SweepLaws
pub mod StackLaws
pub mod StartLaws
pub mod ThroughLaws
