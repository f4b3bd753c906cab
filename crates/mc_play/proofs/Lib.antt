-- Proofs of how a run ends, and of what it leaves.
pub mod Texts
pub mod Stops
pub mod Endings
pub mod Completing
pub mod Plays
pub mod Writing
pub mod Sums
pub mod Counting
pub mod Drained
pub mod Summary
pub mod InMemory
