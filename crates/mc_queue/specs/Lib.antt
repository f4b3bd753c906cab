pub mod Places
pub mod Queue
pub mod Differences
pub mod Union
pub mod Films
pub mod Times
pub mod Blocks
pub mod Wants
