pub mod Spelling
pub mod Reading
pub mod Records
pub mod Sizes
