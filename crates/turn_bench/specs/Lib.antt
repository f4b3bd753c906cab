pub mod Work
pub mod Teams
pub mod Posts
pub mod Settings
pub mod Cells
pub mod Boards
pub mod Handed
pub mod Demuxes
