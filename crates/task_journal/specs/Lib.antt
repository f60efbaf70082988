pub mod Versions
pub mod Journal
pub mod Reads
pub mod Window
pub mod Cursor
pub mod Batch
pub mod Settled
pub mod Room
