pub mod Asked
pub mod Greater
pub mod Memory
pub mod Reached
pub mod Repeats
pub mod Rows
pub mod Sends
pub mod Shown
