pub mod Texts
pub mod Marks
pub mod ReadBack
pub mod Fitting
