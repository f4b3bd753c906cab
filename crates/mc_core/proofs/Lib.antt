pub mod Learnt
pub mod Followed
pub mod Worked
pub mod Done
pub mod Grown
