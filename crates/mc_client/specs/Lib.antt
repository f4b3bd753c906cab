pub mod Client
pub mod Law
pub mod Polls
pub mod Seen
pub mod Watches
