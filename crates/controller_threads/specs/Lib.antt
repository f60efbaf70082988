pub mod Ends
pub mod Halts
pub mod Passes
pub mod Ports
