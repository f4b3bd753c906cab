-- How a line's calls make up what it leaves.
pub mod Counts
pub mod Parts
pub mod Growing
pub mod Drivers
pub mod Filming
pub mod Turning
pub mod Asking
pub mod Choosing
pub mod Drained
pub mod Playing
pub mod Staying
pub mod Called
pub mod Outcomes
pub mod Shown
pub mod Rested
pub mod Ruling
