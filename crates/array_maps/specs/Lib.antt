pub mod Blocks
pub mod Codes
pub mod Gathering
pub mod Making
pub mod Names
pub mod Running
