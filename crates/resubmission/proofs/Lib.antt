pub mod Copies
pub mod Onces
pub mod Pushes
pub mod Wheres
