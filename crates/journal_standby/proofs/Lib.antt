pub mod Divergences
pub mod Fronts
pub mod Going
pub mod Shorts
pub mod Sizes
pub mod Takes
