pub mod Short
pub mod Named
pub mod Fronts
pub mod Results
pub mod Shaking
