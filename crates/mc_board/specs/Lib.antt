pub mod Statuses
pub mod Rule
