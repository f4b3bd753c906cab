pub mod Searching
pub mod Walking
pub mod Laws
pub mod Reopening
pub mod Chunking
pub mod Again
