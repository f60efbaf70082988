pub mod Chunk
pub mod Extends
pub mod Fitting
pub mod Loops
pub mod Places
