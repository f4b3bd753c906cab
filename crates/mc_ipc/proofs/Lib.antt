pub mod Parts
pub mod Places
pub mod Anywhere
pub mod Cuts
pub mod Floats
pub mod Views
