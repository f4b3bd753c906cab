pub mod Lines
pub mod Cut
pub mod Asked
pub mod Written
