pub mod Streams
pub mod Scales
pub mod Cut
pub mod Films
pub mod Writing
