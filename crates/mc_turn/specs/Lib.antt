pub mod Callers
pub mod Passes
pub mod Rule
pub mod Workers
pub mod Laws
