pub mod Atoms
pub mod AtomLaws
