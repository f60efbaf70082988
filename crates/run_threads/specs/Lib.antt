pub mod Answering
pub mod Ends
pub mod Waiting
pub mod Shared
