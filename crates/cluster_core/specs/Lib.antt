pub mod More
pub mod Steps
pub mod Told
pub mod Size
pub mod Growth
