pub mod Demuxing
pub mod Playing
