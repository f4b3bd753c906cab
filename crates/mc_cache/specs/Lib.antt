pub mod Cache
pub mod Removals
pub mod Changing
pub mod Rooms
pub mod Joining
pub mod Pruning
pub mod Shown
pub mod Filmed
pub mod Placed
pub use Rattle.mc_range.specs.Range
pub use Rattle.mc_range.specs.Growing
pub use Rattle.mc_range.specs.Serving
pub use Rattle.mc_range.specs.Joining as RangeJoining
pub use Rattle.mc_range.specs.Tracks
pub use Rattle.mc_range.specs.Cutting
pub use Rattle.mc_range.specs.Bounds
pub use Rattle.mc_range.specs.Filmed as RangeFilmed
