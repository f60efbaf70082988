pub mod Counts
pub mod Decide
pub mod Falls
pub mod Options
pub mod Says
pub mod Attempts
pub mod Rows
