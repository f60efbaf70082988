pub mod Kept
pub mod Halts
pub mod Ready
