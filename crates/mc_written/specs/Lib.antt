pub mod Elements
pub mod Clusters
pub mod Fronts
pub mod Films
