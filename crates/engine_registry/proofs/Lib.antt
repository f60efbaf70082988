pub mod Apart
pub mod Keeping
pub mod Least
pub mod Telling
