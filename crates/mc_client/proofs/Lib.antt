pub mod Clients
pub mod Flags
pub mod Lawful
pub mod Polling
pub mod SeenPolls
