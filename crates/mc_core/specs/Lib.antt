pub mod Errors
pub mod Calls
pub mod Learning
pub mod Working
pub mod Doing
pub mod Core
