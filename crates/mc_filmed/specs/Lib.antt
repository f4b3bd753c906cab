pub mod Marks
pub mod Films
