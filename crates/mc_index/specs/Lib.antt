pub mod Fronts
pub mod Entries
pub mod Scans
pub mod Answers
pub mod Searches
