pub mod Fitting
pub mod Masks
pub mod Slashes
pub mod Known
