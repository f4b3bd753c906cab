pub mod Reads
pub mod Causes
pub mod Standing
pub mod Steps
pub mod Heads
pub mod Spans
pub mod Begins
