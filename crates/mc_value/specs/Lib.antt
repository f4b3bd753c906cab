pub mod Conversions
pub mod Numbers
pub mod Paths
pub mod Sameness
pub mod Seconds
pub mod Values
