pub mod Journals
pub mod Numbers
pub mod Bounds
pub mod Keeps
pub mod Leaves
pub mod Passes
pub mod Rest
