pub mod Made
pub mod Read
pub mod Rounds
pub mod Pieces
mod Worked
