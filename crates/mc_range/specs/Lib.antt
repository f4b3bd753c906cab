pub mod Range
pub mod Growing
pub mod Serving
pub mod Joining
pub mod Tracks
pub mod Filmed
pub mod Cutting
pub mod Bounds
