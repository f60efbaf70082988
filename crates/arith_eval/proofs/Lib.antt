mod Made
pub mod Naming
pub mod Plays
mod Rows
