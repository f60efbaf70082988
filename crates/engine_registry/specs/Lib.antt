pub mod Indexed
pub mod Lone
pub mod Places
