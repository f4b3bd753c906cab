pub mod Frames
pub mod Group
pub mod Block
pub mod Fronts
pub mod Written
