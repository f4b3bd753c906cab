pub mod Checksums
pub mod Orders
pub mod Words
