pub mod Counting
pub mod Peers
pub mod Telling
