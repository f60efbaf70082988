pub mod Finds
pub mod Firsts
pub mod Fronts
pub mod Layings
pub mod Puts
pub mod Shorts
