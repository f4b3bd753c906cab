pub mod Stands
pub mod Steps
pub mod Growth
pub mod Pushing
pub mod Replying
pub mod Taking
