pub mod Plain
pub mod Ruled
pub mod Settling
pub mod Stands
