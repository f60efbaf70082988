pub mod Batches
pub mod Images
pub mod Standbys
pub mod Steps
