pub mod Lines
pub mod Jobs
pub mod Held
pub mod Submitting
