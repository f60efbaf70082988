pub mod Sizes
pub mod Kept
pub mod NameSets
pub mod Pieces
pub mod Whole
pub mod Given
pub mod Spelled
pub mod Properties
mod Rows
pub mod Filled
