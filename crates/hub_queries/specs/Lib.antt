pub mod Ascending
pub mod Kinds
pub mod Lengths
pub mod Results
pub mod Rows
pub mod Tallies
pub mod Weights
