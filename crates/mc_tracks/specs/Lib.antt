pub mod Children
pub mod Answer
pub mod Header
pub mod TrackList
pub mod Selection
