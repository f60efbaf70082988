pub mod Complete
pub mod Digits
pub mod Exact
pub mod Faults
pub mod Printed
mod Rows
pub mod Scans
pub mod Sound
pub mod Steps
pub mod Words
pub mod Writing
