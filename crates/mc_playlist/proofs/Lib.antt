pub mod Agreeing
pub mod Entries
pub mod Going
pub mod Lists
pub mod Masks
pub mod ReadingLemmas
pub mod Watching
