pub mod Held
pub mod Openings
pub mod Records
pub mod Remaking
pub mod Stores
pub mod Worlds
pub mod Queues
pub mod Moves
