pub mod Chosen
pub mod Clustered
pub mod Dumped
pub mod Writes
