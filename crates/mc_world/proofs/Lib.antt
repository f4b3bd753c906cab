pub mod Tied
pub mod Begun
pub mod Listed
pub mod Demuxed
pub mod Played
pub mod Carried
pub mod Stepped
