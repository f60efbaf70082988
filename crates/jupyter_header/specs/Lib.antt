pub mod Comma
pub mod Borrowed
