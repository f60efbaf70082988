pub mod Messages
pub mod Pieces
pub mod Connected
pub mod Faultless
pub mod Sound
mod Rows
pub mod Bodies
pub mod Order
