pub mod Event
pub mod Law
pub mod Ring
