pub mod Queue
pub mod Turning
