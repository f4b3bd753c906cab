pub mod Commands
pub mod Lines
pub mod Spelling
pub mod Table
