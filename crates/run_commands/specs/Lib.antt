pub mod Preparing
pub mod Ends
