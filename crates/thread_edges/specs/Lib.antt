pub mod Links
pub mod Series
pub mod Starts
