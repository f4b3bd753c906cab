pub mod Film
pub mod Chunks
