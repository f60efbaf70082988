pub mod PeerStream
pub mod Message
pub mod Connection
pub mod Limits
