pub mod Element
pub mod Ids
pub mod Laws
pub mod Whole
pub mod Written
