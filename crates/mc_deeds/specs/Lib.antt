pub mod Changes
pub mod Clients
pub mod Flags
pub mod Signals
pub mod Follow
pub mod Closes
