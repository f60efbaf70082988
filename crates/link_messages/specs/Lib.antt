pub mod Message
pub mod Identity
pub mod Outs
pub mod Ends
pub mod Greeting
