pub mod Admitting
pub mod Halting
pub mod Seeing
