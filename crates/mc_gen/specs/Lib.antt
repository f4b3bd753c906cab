pub mod Made
pub mod Generated
pub mod Rounds
pub mod Summary
pub mod Worked
